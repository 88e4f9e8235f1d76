-- What is read, or why nothing is.
use Rattle.std.specs.Prelude.{◌≡◌, ◌≢◌, Result, Ok, Err}
use Rattle.lfs_words.specs.declared.fault.FaultKind.{FaultKind}
use Rattle.lfs_words.specs.declared.fault.FaultKind.TheVariants.{Memory}

-- the second reading, if the first has no fault
infixl 10 ◌>>=◌
abbrev pub ◌>>=◌ : {A B : Type 0} → Result A FaultKind → (A → Result B FaultKind)
    → Result B FaultKind
Ok x >>= next = next x
Err kind >>= next = Err kind

-- A reading gives what was expected. Memory may run out before.
abbrev pub ReadsAs : {A : Type 0} → Result A FaultKind → Result A FaultKind → Type 0
ReadsAs expected (Ok x) = expected ≡ Ok x
ReadsAs expected (Err kind) = kind ≢ Memory → expected ≡ Err kind
