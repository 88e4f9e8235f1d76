-- Faults of a run.
use Rattle.std.specs.Prelude.{◌≡◌, ℕ, ◌<◌, ◌≤◌, List, length, Option, Ok, Err, IfSome}
use Rattle.lfs_io.specs.declared.read.ReadFault.{ReadFault}
use Rattle.lfs_io.specs.declared.read.ReadFault.TheVariants as read
use Rattle.lfs_script.specs.Parsing.{ParsesScript}
use Rattle.lfs_script.specs.PlanTypes.{Planned}
use Rattle.lfs_script.specs.Plans.{plan_of}
use Rattle.lfs_script.specs.declared.split.SplitFault.{SplitFault}
use Rattle.lfs_script.specs.declared.split.SplitFault.TheVariants as split
use Rattle.lfs_audit.specs.declared.fault.RunFault.{RunFault}
use Rattle.lfs_audit.specs.declared.fault.RunFault.TheVariants.{Read, TooLong, Script, Format, Memory, Write}
use Rattle.lfs_audit.specs.declared.fault.ThreadsFault.{ThreadsFault}
use Rattle.lfs_audit.specs.declared.fault.ThreadsFault.TheVariants as threads

-- a fault of a run that may have written: memory ran out, or a write failed
abbrev pub MayHaveWritten : RunFault → Type 0
MayHaveWritten Read = ⊥
MayHaveWritten TooLong = ⊥
MayHaveWritten (Script fault) = ⊥
MayHaveWritten (Format fault) = ⊥
MayHaveWritten Memory = Unit {0}
MayHaveWritten Write = Unit {0}

-- a script of these bytes was read whole, and has this plan
pub record IsRead (script : List ℕ) (plan : Planned) : Type 0 where
  pub short : length script ≤ 1048576
  pub parsed : plan_of script ≡ Ok plan

-- a script of these bytes, where they are known, has a plan
abbrev pub HasPlan : Option (List ℕ) → Type 0
HasPlan script = IfSome script (λ bytes. (plan : Planned) × IsRead bytes plan)

-- a script of these bytes, where they are known, may not be read and parsed for this fault: it is too long only with
-- more than 1,048,576 bytes, and the fault of a line is that of parsing one that isn't
abbrev pub IsReadingFault : Option (List ℕ) → RunFault → Type 0
IsReadingFault script Read = Unit {0}
IsReadingFault script TooLong = IfSome script (λ bytes. 1048576 < length bytes)
IsReadingFault script (Script fault) = IfSome script (λ bytes. (length bytes ≤ 1048576)
    × ParsesScript bytes (Err fault))
IsReadingFault script (Format fault) = ⊥
IsReadingFault script Memory = Unit {0}
IsReadingFault script Write = ⊥

-- a run of such a script over a volume that is there may end in this fault: a write fails only once the script is
-- parsed
abbrev pub IsFaultOf : Option (List ℕ) → RunFault → Type 0
IsFaultOf script Write = HasPlan script
IsFaultOf script fault = IsReadingFault script fault

-- the fault of a run whose script could not be read
abbrev pub read_fault : ReadFault → RunFault
read_fault read.Read = Read
read_fault read.TooLong = TooLong
read_fault read.Memory = Memory

-- the fault of a run on threads whose plan could not be split
abbrev pub split_fault : SplitFault → ThreadsFault
split_fault split.CleanerLine = threads.CleanerLine
split_fault split.Memory = threads.Run Memory
