-- What is found in the blocks of a disk, and what a crash leaves while it is written back.
use Rattle.std.specs.Prelude.{◌≡◌, ◌⊎◌, ℕ, Bool, true, List, ⊤}
use Rattle.lfs_segments.specs.Memory.{IsLaidOut, SegmentMemory, seen}
use Rattle.lfs_parts.specs.declared.parts.Parts.{Parts}
use Rattle.lfs_parts.specs.Files.{content_of}
use Rattle.lfs_parts.specs.Store.{IsFlushed, IsStore}
use Rattle.lfs_logstore.specs.States.{state_of}
use Rattle.lfs_calls.specs.Volumes.{HasWorld}
use Rattle.lfs_fsck.specs.Stored.{IsStored, stored}
use Rattle.lfs_durable.specs.Crashes.{IsCrashOf}
use Rattle.lfs_durable.specs.Kept.{CanBeFound}
use Rattle.lfs_durable.specs.Names.{IsDurable}
use Rattle.lfs_durable.specs.Runs.{IsCounted}
use Rattle.lfs_rescue.specs.declared.fault.RecoverFault.{RecoverFault}
use Rattle.lfs_rescue.specs.declared.fault.RecoverFault.TheVariants.{Memory}
use Rattle.lfs_rescue.specs.Contents.{EndsInOrder, FindsAllOf, IsLeftOfNone}
use Rattle.lfs_rescue.specs.Recovering.{IsRecovered, IsRecoverFaultOf, TellsTheSame}
use Rattle.lfs_disk_start.specs.declared.fault.StartFault.{StartFault}
use Rattle.lfs_disk_start.specs.declared.fault.StartFault.TheVariants.{Disk, File, Format, Length, Lost, Recovery}
use Rattle.lfs_disk_start.specs.Mixing.{IsMixtureOf}

-- the memory that blocks are, as a search reads them: which segment is active it isn't told
abbrev pub memory_of : List (List ℕ) → SegmentMemory
memory_of blocks = seen blocks 0 1

-- A store with so many frames, all empty, is found in a memory: it is what that tells, and its own blocks tell the
-- same. It contains all that each store contained of which a crash, or none, left the memory. Its names show a tree,
-- nothing waits, and it can be found again.
pub record IsFoundOf (m : SegmentMemory) (frames : ℕ) (found : Parts) : Type 0 where
  pub recovered : IsRecovered m found.log
  pub tells : TellsTheSame m found.log.memory
  pub content : FindsAllOf m found
  pub stands : IsStored found.log
  pub flushed : found ≡ stored frames found.log
  pub world : HasWorld (state_of found)
  pub findable : CanBeFound found
  pub store : IsStore found
  pub still : IsFlushed found

-- Blocks are as they were, or some of those are written that the store which was found in them has otherwise.
abbrev pub IsOnTheWayBack : List (List ℕ) → ℕ → List (List ℕ) → Type 0
IsOnTheWayBack blocks frames c =
    (c ≡ blocks) ⊎ ((found : Parts) × IsFoundOf (memory_of blocks) frames found
    × IsMixtureOf blocks found.log.memory.blocks c)

-- none is found in a memory, for this cause; but for want of memory it is what a crash left of no store
pub record IsNotFound (m : SegmentMemory) (fault : RecoverFault) : Type 0 where
  pub cause : IsRecoverFaultOf m fault
  pub none : (fault ≡ Memory → ⊥) → IsLeftOfNone m

-- One is found in a memory that could not be found again. So no crash left the memory of a store that showed a tree, of
-- which all lay in its log, and which wrote its segments one after the other.
pub record IsLost (m : SegmentMemory) : Type 0 where
  pub found : Parts
  pub recovered : IsRecovered m found.log
  pub lost : CanBeFound found → ⊥
  pub none : (p : Parts) → IsDurable p → HasWorld (state_of p) → IsCrashOf p m → EndsInOrder m → ⊥

-- what a fault says of a memory in which a volume was looked for, and of the disk
abbrev pub IsFindFaultOf : SegmentMemory → Bool → StartFault → Type 0
IsFindFaultOf m has_failed (File fault) = ⊥
IsFindFaultOf m has_failed (Format fault) = ⊥
IsFindFaultOf m has_failed Length = IsLaidOut m → ⊥
IsFindFaultOf m has_failed (Recovery fault) = IsNotFound m fault
IsFindFaultOf m has_failed Lost = IsLost m
IsFindFaultOf m has_failed (Disk fault) = has_failed ≡ true

-- so of such a memory, whatever the disk did
abbrev pub IsReadFaultOf : SegmentMemory → StartFault → Type 0
IsReadFaultOf m fault = (has_failed : Bool) × IsFindFaultOf m has_failed fault

-- any fault but the disk's leaves the disk as it was
abbrev pub LeavesDisk : {D : Type 0} → D → D → StartFault → Type 0
LeavesDisk old new (Disk fault) = ⊤
LeavesDisk old new (File fault) = new ≡ old
LeavesDisk old new (Format fault) = new ≡ old
LeavesDisk old new Length = new ≡ old
LeavesDisk old new (Recovery fault) = new ≡ old
LeavesDisk old new Lost = new ≡ old

-- What is found in blocks of which some were written back contains what the store contains that was found before:
-- where the last serial hasn't come.
abbrev pub FindsTheSame : Type 0
FindsTheSame = (blocks c : List (List ℕ)) (frames more : ℕ) (found again : Parts)
    → IsFoundOf (memory_of blocks) frames found → IsCounted found → IsMixtureOf blocks found.log.memory.blocks c → IsFoundOf (memory_of c) more again
    → content_of again ≡ content_of found
