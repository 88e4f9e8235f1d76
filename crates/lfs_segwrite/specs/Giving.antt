-- When changes may use what is kept back: behind them a dirty segment can still be finished.
use Rattle.std.specs.Prelude.{◌⊎◌, ℕ, ◌+◌, ◌<◌, ◌≤◌, ◌==◌, Bool, false, not, List, max}
use Rattle.std.specs.List.{filter, list_any}
use Rattle.lfs_types.specs.declared.cleaner.BlockInfo.{BlockInfo}
use Rattle.lfs_types.specs.declared.store.Change.{Change}
use Rattle.lfs_types.specs.declared.store.Change.TheVariants.{Make, Remove, SetAttrs, Put, SetLength}
use Rattle.lfs_segments.specs.Memory.{room_of}
use Rattle.lfs_bmap.specs.Moves.{DirtyIn}
use Rattle.lfs_parts.specs.declared.parts.Parts.{Parts}
use Rattle.lfs_parts.specs.Keys.{log_state}
use Rattle.lfs_segwrite.specs.Gaining.{blocks_by_eights, live_infos, widest_eight}
use Rattle.lfs_segwrite.specs.declared.room.TheConstants.{WHOLE}

-- So many blocks, of which so many are written at once at most, have room where nothing waits: in what the active
-- segment has left; or in a clean one alone; or in both, though as many be left behind in the active one as are written
-- at once.
abbrev pub HaveRoom : ℕ → ℕ → Parts → Type 0
HaveRoom blocks most p =
    (blocks ≤ room_of p.log.memory)
    ⊎ ((0 < p.log.clean) × ((blocks ≤ WHOLE) ⊎ (blocks + most ≤ room_of p.log.memory + WHOLE)))

-- a change removes the file with a number
abbrev pub removes : ℕ → Change → Bool
removes number (Make ino attrs) = false
removes number (Remove ino) = ino == number
removes number (SetAttrs ino attrs) = false
removes number (Put ino off bytes) = false
removes number (SetLength ino len) = false

-- one of some changes does
abbrev pub are_removing : List Change → ℕ → Bool
are_removing changes number = list_any (removes number) changes

-- the block of an info stays behind changes: they don't remove its file
abbrev pub stays : List Change → BlockInfo → Bool
stays changes info = not (are_removing changes info.ino)

-- the infos of a segment's live blocks that stay behind changes, in the log's order
unfoldable pub staying_infos : Parts → List Change → ℕ → List BlockInfo
staying_infos p changes segment = filter (stays changes) (live_infos p segment)

-- the blocks that it takes to write these again, by eights
abbrev pub staying_blocks : Parts → List Change → ℕ → ℕ
staying_blocks p changes segment = blocks_by_eights (staying_infos p changes segment)

-- the most of them that are written at once
abbrev pub staying_widest : Parts → List Change → ℕ → ℕ
staying_widest p changes segment = widest_eight (staying_infos p changes segment)

-- Behind changes, for which so many blocks are written first, a dirty segment can be finished: what it takes to write
-- again what stays of it has room, and leaves so many blocks to spare.
pub record LeavesFinishable (spare : ℕ) (changes : List Change) (blocks : ℕ) (p : Parts)
    (segment : ℕ) : Type 0 where
  pub inside : segment < p.log.memory.segments
  pub dirty : DirtyIn (log_state p) segment
  pub room : HaveRoom (staying_blocks p changes segment + blocks)
      (max (staying_widest p changes segment) blocks) p
  pub spares : HaveRoom (staying_blocks p changes segment + blocks + spare) 0 p
