-- What is spelled is read back.
use Rattle.std.specs.Prelude.{◌≡◌, ℕ, true, List, Result, Ok}
use Rattle.lfs_words.specs.Wording.{is_word}
use Rattle.lfs_words.specs.declared.fault.FaultKind.{FaultKind}

-- the text is a word of a line, and is read as this value
pub record ReadsBack {A : Type 0} (read : List ℕ → Result A FaultKind) (text : List ℕ)
    (value : A) : Type 0 where
  pub word : is_word text ≡ true
  pub back : read text ≡ Ok value
