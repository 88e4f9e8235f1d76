-- Behind a flush a store's log has gone on in a way that a disk can follow, and so behind all that waits, which is
-- written, and blocks that are written again; and what is found behind a crash meanwhile.
use Rattle.std.specs.Prelude.{◌≡◌, ◌≢◌, ◌⊎◌, ℕ, ◌<◌, List}
use Rattle.lfs_types.specs.declared.cleaner.BlockInfo.{BlockInfo}
use Rattle.lfs_segments.specs.Memory.{SegmentMemory, opened}
use Rattle.lfs_ifile.specs.declared.segment.SegState.TheVariants.{Clean}
use Rattle.lfs_log.specs.Parts.{state_of}
use Rattle.lfs_parts.specs.declared.parts.Parts.{Parts}
use Rattle.lfs_parts.specs.Files.{content_of}
use Rattle.lfs_parts.specs.Store.{IsFlushed, IsStore}
use Rattle.lfs_segwrite.specs.Applying.{WritesWaiting}
use Rattle.lfs_segwrite.specs.Flushing.{Flushes, FlushesAhead}
use Rattle.lfs_segwrite.specs.Marking.{MarksFlushed}
use Rattle.lfs_durable.specs.Contents.{IsMadeOf}
use Rattle.lfs_durable.specs.Names.{IsDurable}
use Rattle.lfs_durable.specs.Runs.{ShowsTree}
use Rattle.lfs_disk.specs.Mirroring.{FollowsOn, IsOldOrNew}

-- in the active segment
abbrev pub FlushFollowsOn : Type 0
FlushFollowsOn = (old new : Parts) → IsStore old → Flushes old new → FollowsOn old.log.memory new.log.memory

-- or in another one, which was opened for it
abbrev pub OpenedFollowsOn : Type 0
OpenedFollowsOn = (old mid new : Parts) (segment : ℕ) → IsStore old → segment < old.log.memory.segments
    → segment ≢ old.log.memory.active → mid.log.memory ≡ opened old.log.memory segment → Flushes mid new
    → FollowsOn old.log.memory new.log.memory

-- so in either of the two
abbrev pub FlushingAheadFollowsOn : Type 0
FlushingAheadFollowsOn = (old new : Parts) → IsStore old → FlushesAhead old new
    → FollowsOn old.log.memory new.log.memory

-- so where all that waits is written
abbrev pub WritingFollowsOn : Type 0
WritingFollowsOn = (old new : Parts) → IsStore old → WritesWaiting old new → FollowsOn old.log.memory new.log.memory

-- and where blocks are written again for a cleaner, if there are any
abbrev pub MarkingFollowsOn : Type 0
MarkingFollowsOn = (marks : List BlockInfo) (count : ℕ) (old new : Parts) → IsStore old
    → MarksFlushed marks count old new → FollowsOn old.log.memory new.log.memory

-- where another segment is active, it was clean
abbrev pub OpensCleanOnly : Type 0
OpensCleanOnly = (old new : Parts) → FlushesAhead old new → new.log.memory.active ≢ old.log.memory.active
    → state_of old.log.tables new.log.memory.active ≡ Clean

-- ---- a crash while a store is written out

-- A store on what is found in what it leaves contains what the store contained before, or what it contains now.
abbrev pub FindsOldOrNew : Type 0
FindsOldOrNew = (old new q : Parts) (n : SegmentMemory) → IsDurable old → ShowsTree old → IsDurable new
    → ShowsTree new → FollowsOn old.log.memory new.log.memory
    → (new.log.memory.active ≢ old.log.memory.active → state_of old.log.tables new.log.memory.active ≡ Clean)
    → n.segments ≡ old.log.memory.segments → IsOldOrNew old.log.memory new.log.memory n.blocks
    → IsMadeOf n q.log → IsStore q → IsFlushed q
    → (content_of q ≡ content_of old) ⊎ (content_of q ≡ content_of new)
