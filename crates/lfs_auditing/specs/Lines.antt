-- What was read of a line.
use Rattle.std.specs.Prelude.{◌≡◌, ◌<◌, ℕ, List, [], ◌∷◌, ◌++◌, length, Option}
use Rattle.std.specs.Io.KnownBytes.{Consumes, IsAtEnd}
use Rattle.lfs_words.specs.Lines.{HasNoLineFeed}
use Rattle.lfs_auditing.specs.declared.lines.Piece.{Piece}
use Rattle.lfs_auditing.specs.declared.lines.Piece.TheVariants.{Line, End, Cut, TooLong}

-- bytes without a line feed were read
pub record IsPart (known left : Option (List ℕ)) (part : List ℕ) : Type 0 where
  pub unended : HasNoLineFeed part
  pub taken : Consumes known left part

-- What was read: a line and its line feed; nothing, at the end of the input; what is behind the
-- last line feed; or more bytes without a line feed than a line may have.
abbrev pub IsPiece : Option (List ℕ) → Option (List ℕ) → List ℕ → Piece → Type 0
IsPiece known left line Line = HasNoLineFeed line × Consumes known left (line ++ 10 ∷ [])
IsPiece known left line End = (line ≡ []) × Consumes known left [] × IsAtEnd left
IsPiece known left line Cut = IsPart known left line × IsAtEnd left × (0 < length line)
IsPiece known left line TooLong = IsPart known left line × (4194304 < length line)
