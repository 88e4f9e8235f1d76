-- An inode block is four slots of 128 bytes.
use Rattle.std.specs.Prelude.{ℕ, ◌*◌, List, [], ◌∷◌, take, drop}

-- the bytes of slot k
unfoldable pub slot_of : List ℕ → ℕ → List ℕ
slot_of block k = take 128 (drop (128 * k) block)

-- the four slots
abbrev pub slots : List ℕ → List (List ℕ)
slots block = slot_of block 0 ∷ slot_of block 1 ∷ slot_of block 2 ∷ slot_of block 3 ∷ []
