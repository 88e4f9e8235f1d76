-- What recovery makes of what a crash left is a log that a store may stand on.
use Rattle.std.specs.Prelude.{◌≡◌, ◌≢◌, ℕ, ◌<◌}
use Rattle.lfs_segments.specs.Memory.{SegmentMemory}
use Rattle.lfs_ifile.specs.declared.segment.SegState.TheVariants.{Clean}
use Rattle.lfs_log.specs.Parts.{IsParts, LogParts}
use Rattle.lfs_log.specs.Parts as log
use Rattle.lfs_parts.specs.declared.parts.Parts.{Parts}
use Rattle.lfs_logstore.specs.States.{state_of}
use Rattle.lfs_calls.specs.Volumes.{HasWorld}
use Rattle.lfs_fsck.specs.declared.fault.LogFault.{LogFault}
use Rattle.lfs_fsck.specs.declared.fault.LogFault.TheVariants.{Memory}
use Rattle.lfs_fsck.specs.Checks.{IsLive}
use Rattle.lfs_fsck.specs.Faults.{IsFileFaultOf}
use Rattle.lfs_fsck.specs.Stored.{IsStored}
use Rattle.lfs_image.specs.Image.{IsLabelled}
use Rattle.lfs_durable.specs.Crashes.{IsCrashOf}
use Rattle.lfs_durable.specs.Names.{IsDurable}
use Rattle.lfs_rescue.specs.Recovering.{IsRecovered}

-- A log tells what a memory of blocks tells: it is well formed, and block 0 is its label.
pub record IsDraft (m : SegmentMemory) (l : LogParts) : Type 0 where
  pub recovered : IsRecovered m l
  pub parts : IsParts l
  pub labelled : IsLabelled l

-- A log was built again from a memory of blocks: so it is, and the live bytes of each segment are those of the blocks and
-- records that lie there.
pub record IsRebuilt (m : SegmentMemory) (l : LogParts) : Type 0 where
  pub draft : IsDraft m l
  pub live : (segment : ℕ) → segment < l.memory.segments → IsLive l segment

-- no segment is clean
abbrev pub NoneClean : LogParts → Type 0
NoneClean l = (segment : ℕ) → segment < l.memory.segments → log.state_of l.tables segment ≢ Clean

-- A store may stand on what is built again from the blocks that a crash left of a store, or no crash, where all of it
-- lay in its log and it showed a tree.
abbrev pub FindsStore : Type 0
FindsStore = (p : Parts) (m : SegmentMemory) (l : LogParts) → IsDurable p → HasWorld (state_of p) → IsCrashOf p m
    → IsRebuilt m l → IsStored l

-- Whatever live bytes such a log counts, where no segment is clean its files and its end have no fault.
abbrev pub FindsFiles : Type 0
FindsFiles = (p : Parts) (m : SegmentMemory) (l : LogParts) (fault : LogFault) → IsDurable p → HasWorld (state_of p)
    → IsCrashOf p m → IsDraft m l → NoneClean l → IsFileFaultOf l fault → fault ≡ Memory
