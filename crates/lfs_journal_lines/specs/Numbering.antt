-- The number that may stand before the line of an entry.
use Rattle.std.specs.Prelude.{ℕ, ◌==◌, List, [], ◌∷◌, ◌++◌, decimal, Option, None, Some, option_and_then, if◌then◌else◌}

-- a line behind a number
abbrev pub numbered : ℕ → List ℕ → List ℕ
numbered number line = 35 ∷ decimal number ++ 32 ∷ line

-- what stands behind a mark, where a text begins with it
abbrev pub behind : List ℕ → List ℕ → Option (List ℕ)
behind [] text = Some text
behind (c ∷ mark) [] = None
behind (c ∷ mark) (d ∷ text) = if d == c then behind mark text else None

-- a line without the number before it, where one stands there; nothing, where it isn't this number
unfoldable pub unnumbered : ℕ → List ℕ → Option (List ℕ)
unnumbered number [] = Some []
unnumbered number (c ∷ line) =
    if c == 35 then option_and_then (behind (32 ∷ [])) (behind (decimal number) line) else Some (c ∷ line)
