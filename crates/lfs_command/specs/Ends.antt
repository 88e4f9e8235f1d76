-- How a program ends that was not asked for a run.
use Rattle.std.specs.Prelude.{◌≡◌, ◌≢◌, ◌≤◌, ◌⊎◌, ℕ}
use Rattle.clap.specs.declared.error.kind.ErrorKind.{ErrorKind}
use Rattle.clap.specs.declared.error.kind.ErrorKind.TheVariants.{DisplayHelp, DisplayVersion, OutOfMemory}
use Rattle.clap.specs.declared.error.kind.ErrorKind.TheVariants.{ValueValidation}

-- words of this kind are refused for a value, or memory is wanting
abbrev pub IsRefusal : ErrorKind → Type 0
IsRefusal kind = (kind ≡ ValueValidation) ⊎ (kind ≡ OutOfMemory)

-- Of words of this kind nothing is run, and a program ends with this status: the help and the version go to the first
-- writer, of which the second hears nothing unless they were not written; words that are refused are told on the second
-- alone, with status 2; and so is want of memory, with status 1.
pub record EndsUnasked {W D : Type 0} (kind : ErrorKind) (status : ℕ) (out_before out_after : W)
    (err_before err_after : D) : Type 0 where
  pub help : kind ≡ DisplayHelp → status ≤ 1
  pub helped : kind ≡ DisplayHelp → status ≡ 0 → err_after ≡ err_before
  pub version : kind ≡ DisplayVersion → status ≤ 1
  pub versioned : kind ≡ DisplayVersion → status ≡ 0 → err_after ≡ err_before
  pub refused : kind ≢ DisplayHelp → kind ≢ DisplayVersion → kind ≢ OutOfMemory
      → (status ≡ 2) × (out_after ≡ out_before)
  pub lacking : kind ≡ OutOfMemory → (status ≡ 1) × (out_after ≡ out_before)
