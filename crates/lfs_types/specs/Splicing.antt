-- Putting bytes into bytes, and other lengths of them.
use Rattle.std.specs.Prelude.{ℕ, ◌+◌, ◌-◌, List, [], ◌∷◌, ◌++◌, length, take, drop, replicate}

-- Bytes put at a place: what stood before it, zeros where nothing stood, the new bytes, and what stood behind
-- them. No bytes change nothing.
abbrev pub splice : List ℕ → ℕ → List ℕ → List ℕ
splice old start [] = old
splice old start (b ∷ bs) = take start old ++ replicate (start - length old) 0 ++ (b ∷ bs)
    ++ drop (start + length (b ∷ bs)) old

-- Bytes of which so many are kept, and zeros behind them where there are fewer.
abbrev pub resized : List ℕ → ℕ → List ℕ
resized old len = take len old ++ replicate (len - length old) 0
