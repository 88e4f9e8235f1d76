-- The bytes of a reader, piece by piece.
use Rattle.std.specs.Prelude.{◌≡◌, ℕ, ◌+◌, ◌<◌, Bool, true, false, List, [], length, Option}
use Rattle.std.specs.Io.KnownBytes.{Consumes, IsAtEnd}

-- the piece that was read last, and how many bytes were read so far, this piece among them
pub record Pieced : Type 0 where
  pub piece : List ℕ
  pub total : ℕ

-- a piece was read, and counts
abbrev pub IsNext : Option (List ℕ) → Option (List ℕ) → ℕ → Pieced → Type 0
IsNext known left total new = Consumes known left new.piece × (new.total ≡ total + length new.piece)

-- the next piece was read: it has bytes; or there is none, as the reader is at its end
abbrev pub ReadsNext : Option (List ℕ) → Option (List ℕ) → ℕ → Pieced → Bool → Type 0
ReadsNext known left total new true = IsNext known left total new × (0 < length new.piece)
ReadsNext known left total new false = IsNext known left total new × (new.piece ≡ []) × IsAtEnd left
