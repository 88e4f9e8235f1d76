-- That what waits fits what the active segment has left, with changes too.
use Rattle.std.specs.Prelude.{ℕ, ◌+◌, ◌/◌, ◌≤◌, ◌==◌, List, length, if◌then◌else◌, sum_by}
use Rattle.lfs_types.specs.declared.store.Change.{Change}
use Rattle.lfs_types.specs.declared.store.Change.TheVariants.{Make, Remove, SetAttrs, Put, SetLength}
use Rattle.lfs_segments.specs.Memory.{room_of}
use Rattle.lfs_staging.specs.declared.cutting.TheConstants.{CUT_FRAMES}
use Rattle.lfs_cache.specs.declared.cache.TheConstants.{LOCKED_LIMIT}
use Rattle.lfs_parts.specs.declared.records.TheConstants.{WAITING_LIMIT}
use Rattle.lfs_parts.specs.declared.parts.Parts.{Parts}
use Rattle.lfs_segwrite.specs.Applying.{waiting_blocks}
use Rattle.lfs_segwrite.specs.Collecting.{inode_blocks}

-- what waits fits the active segment
abbrev pub Fits : Parts → Type 0
Fits p = waiting_blocks p ≤ room_of p.log.memory

-- frames that a change never takes more of, by the bytes that it puts
abbrev pub frames_at_most : Change → ℕ
frames_at_most (Make ino attrs) = 0
frames_at_most (Remove ino) = CUT_FRAMES
frames_at_most (SetAttrs ino attrs) = 0
frames_at_most (Put ino off bytes) = if length bytes.now == 0 then 0 else (length bytes.now + 2558) / 512
frames_at_most (SetLength ino len) = CUT_FRAMES

-- nor some changes
abbrev pub frames_of_all_at_most : List Change → ℕ
frames_of_all_at_most changes = sum_by frames_at_most changes

-- With changes no more waits than may, and it fits the active segment, by these frames and a record for each change.
pub record FitsWith (changes : List Change) (p : Parts) : Type 0 where
  pub frames : length p.cache.locked + frames_of_all_at_most changes ≤ LOCKED_LIMIT
  pub records : length p.waiting + length changes ≤ WAITING_LIMIT
  pub fits : length p.cache.locked + frames_of_all_at_most changes + inode_blocks (length p.waiting + length changes) + 1
      ≤ room_of p.log.memory
