-- What was read of a line.
use Rattle.std.specs.Prelude.{◌≡◌, ℕ, Bool, true, false, List, [], ◌∷◌, ◌++◌, take, Option}
use Rattle.std.specs.Io.KnownBytes.{Consumes, IsAtEnd}
use Rattle.lfs_words.specs.Lines.{HasNoLineFeed}

-- a text and a line feed
abbrev pub ended_line : List ℕ → List ℕ
ended_line text = text ++ 10 ∷ []

-- nothing but bytes without a line feed was read
pub record IsUnended (known left : Option (List ℕ)) : Type 0 where
  pub part : List ℕ
  pub unended : HasNoLineFeed part
  pub taken : Consumes known left part

-- a line and its line feed were read, or what is behind the last one, and of it these bytes are kept: the first 65,537
pub record IsPiece (known left : Option (List ℕ)) (is_ended : Bool) (kept : List ℕ) : Type 0 where
  pub line : List ℕ
  pub unended : HasNoLineFeed line
  pub kept_of : kept ≡ take 65537 line
  pub ended : is_ended ≡ true → Consumes known left (line ++ 10 ∷ [])
  pub last : is_ended ≡ false → Consumes known left line × IsAtEnd left
