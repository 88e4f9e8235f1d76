-- A disk that has the blocks of a memory, how the memory goes on, and what a crash leaves until the disk has it.
use Rattle.std.specs.Prelude.{◌≡◌, ◌≢◌, ◌⊎◌, ℕ, ◌+◌, ◌*◌, ◌<◌, ◌≤◌, List}
use Rattle.lfs_types.specs.declared.limits.TheConstants.{SEGMENT_BLOCKS}
use Rattle.lfs_types.specs.Blocks.{zero_block}
use Rattle.lfs_segments.specs.Log.{first_of}
use Rattle.lfs_segments.specs.Memory.{IsLaidOut, SegmentMemory, block_at, next_address}
use Rattle.lfs_ifile.specs.declared.segment.SegState.TheVariants.{Clean}
use Rattle.lfs_log.specs.Parts.{state_of}
use Rattle.lfs_parts.specs.declared.parts.Parts.{Parts}
use Rattle.lfs_durable.specs.Crashes.{IsCrashOf}
use Rattle.lfs_disk.specs.declared.mirror.Mirror.{Mirror}
use Rattle.lfs_disk.specs.Disk.{Only}
use Rattle.lfs_disk.specs.Writing.{IsSameBut}

-- the disk of a mirror
abbrev pub disk_of : {D : Type 0} → Mirror D → D
disk_of mirror = mirror.disk

-- the memory whose blocks it has
abbrev pub memory_of : {D : Type 0} → Mirror D → SegmentMemory
memory_of mirror = mirror.memory.value

-- The disk has the blocks of that memory, and a crash leaves nothing else; the mirror knows where the memory's log
-- ends.
pub record IsMirror {D : Type 0} (seen : D → List (List ℕ)) (may_leave : D → List (List ℕ) → Type 0)
    (mirror : Mirror D) : Type 0 where
  pub blocks : seen (disk_of mirror) ≡ (memory_of mirror).blocks
  pub synced : Only (seen (disk_of mirror)) (may_leave (disk_of mirror))
  pub laid_out : IsLaidOut (memory_of mirror)
  pub active : mirror.active ≡ (memory_of mirror).active
  pub next : mirror.next ≡ next_address (memory_of mirror)

-- zeros stand behind the end of the active segment's log
abbrev pub IsBlankBehind : SegmentMemory → Type 0
IsBlankBehind m = (a : ℕ) → next_address m ≤ a → a < m.active * SEGMENT_BLOCKS + SEGMENT_BLOCKS
    → block_at m a ≡ zero_block

-- Blocks were written behind the end of the active segment's log, or none was, and no other one changed.
pub record IsLonger (old new : SegmentMemory) : Type 0 where
  pub active : new.active ≡ old.active
  pub ordered : old.fill ≤ new.fill
  pub blocks : IsSameBut (next_address old) (next_address new) old.blocks new.blocks

-- Another segment was made active, and no block changed but those of its log.
pub record IsElsewhere (old new : SegmentMemory) : Type 0 where
  pub active : new.active ≢ old.active
  pub blocks : IsSameBut (first_of new.active) (new.active * SEGMENT_BLOCKS + SEGMENT_BLOCKS) old.blocks new.blocks

-- A memory's log went on, in one of these ways.
pub record FollowsOn (old new : SegmentMemory) : Type 0 where
  pub segments : new.segments ≡ old.segments
  pub either : IsLonger old new ⊎ IsElsewhere old new

-- Blocks are what a crash leaves of a store, whichever it is that had this memory, and in which the segment that the
-- next one has active, where it is another, is clean.
abbrev pub IsLeftOf : SegmentMemory → SegmentMemory → List (List ℕ) → Type 0
IsLeftOf old new blocks = (p : Parts) (n : SegmentMemory) → p.log.memory ≡ old
    → (new.active ≢ old.active → state_of p.log.tables new.active ≡ Clean)
    → n.segments ≡ old.segments → n.blocks ≡ blocks → IsCrashOf p n

-- They are the next memory's, or so.
abbrev pub IsOldOrNew : SegmentMemory → SegmentMemory → List (List ℕ) → Type 0
IsOldOrNew old new blocks = (blocks ≡ new.blocks) ⊎ IsLeftOf old new blocks
