-- A run that is not handed out as settled: why, and what it left.
use Rattle.std.specs.Prelude.{ℕ, Result, Ok, Err}
use Rattle.lfs_server.specs.declared.serving.ServeFault.{ServeFault}
use Rattle.lfs_server.specs.declared.serving.ServeFault.TheVariants as faults
use Rattle.lfs_server.specs.declared.unserved.Unserved.{Unserved}
use Rattle.lfs_server.specs.declared.unserved.Unserved.TheVariants.{Fault, Unsettled}

-- why, without what it left
abbrev pub fault_of : {T : Type 0} → Unserved T → ServeFault
fault_of (Fault fault) = fault
fault_of (Unsettled session left) = faults.Unsettled session

-- a session is named only with what the run left, and then this holds of the two
abbrev pub NamesUnsettled : {T : Type 0} → (ℕ → T → Type 0) → Unserved T → Type 0
NamesUnsettled P (Fault faults.Sessions) = Unit {0}
NamesUnsettled P (Fault (faults.Format fault)) = Unit {0}
NamesUnsettled P (Fault faults.Memory) = Unit {0}
NamesUnsettled P (Fault (faults.Unsettled session)) = ⊥
NamesUnsettled P (Fault faults.Thread) = Unit {0}
NamesUnsettled P (Unsettled session left) = P session left

-- what holds of what a run left, whether it is settled or not
abbrev pub OnLeft : {T : Type 0} → Result T (Unserved T) → (T → Type 0) → Type 0
OnLeft (Ok left) P = P left
OnLeft (Err (Fault fault)) P = Unit {0}
OnLeft (Err (Unsettled session left)) P = P left
