-- What it takes to clean a segment, and when that gains room.
use Rattle.std.specs.Prelude.{◌≡◌, ◌⊎◌, ℕ, zero, suc, ◌+◌, ◌*◌, ◌/◌, ◌<◌, ◌≤◌, ◌&&◌, ◌==◌, Bool, not, List, All, drop}
use Rattle.std.specs.Prelude.{length, max, take}
use Rattle.std.specs.List.{filter}
use Rattle.lfs_types.specs.declared.cleaner.BlockInfo.{BlockInfo}
use Rattle.lfs_types.specs.declared.cleaner.TheConstants.{MARK_LIMIT}
use Rattle.lfs_types.specs.declared.limits.TheConstants.{SEGMENT_BLOCKS}
use Rattle.lfs_ifile.specs.Tables.{row_of}
use Rattle.lfs_ifile.specs.declared.segment.SegState.TheVariants.{Dirty}
use Rattle.lfs_segments.specs.Memory.{block_at, has_serials, room_of}
use Rattle.lfs_segments.specs.Rising.{IsRising}
use Rattle.lfs_found.specs.Written.{IsRecoverable}
use Rattle.lfs_log.specs.Infos.{infos_of}
use Rattle.lfs_log.specs.Parts.{live_of, state_of}
use Rattle.lfs_bmap.specs.declared.blocks.TheConstants.{BLOCK_CODES}
use Rattle.lfs_bmap.specs.Counting.{total}
use Rattle.lfs_bmap.specs.Log.{LogState}
use Rattle.lfs_bmap.specs.Moves.{DirtyIn, Moves, StaysDirty, present_address}
use Rattle.lfs_parts.specs.declared.parts.Parts.{Parts}
use Rattle.lfs_parts.specs.Files.{content_of}
use Rattle.lfs_parts.specs.Keys.{log_state}
use Rattle.lfs_parts.specs.Store.{IsFlushed, IsStore}
use Rattle.lfs_parts.specs.View.{version_of}
use Rattle.lfs_segwrite.specs.Marking.{AreNamed, IsNamed, IsOnWay, blocks_to_mark, code_named}
use Rattle.lfs_segwrite.specs.Ordered.{IsOrdered}
use Rattle.lfs_segwrite.specs.declared.room.TheConstants.{WHOLE}

-- an info names a block with its present address, which isn't 0
abbrev pub names_block : LogState → BlockInfo → Bool
names_block l info = not (info.addr == 0)
    && present_address l info.ino info.version (code_named info.lbn) == info.addr

-- the infos of a segment that do, in the log's order
unfoldable pub live_infos : Parts → ℕ → List BlockInfo
live_infos p segment = filter (names_block (log_state p)) (infos_of p.log.memory segment)

-- of some infos the eight with a number, counted from 0: of the last fewer, perhaps
abbrev pub eight : List BlockInfo → ℕ → List BlockInfo
eight infos k = take MARK_LIMIT (drop (MARK_LIMIT * k) infos)

-- how many eights there are
abbrev pub eights : List BlockInfo → ℕ
eights infos = (length infos + 7) / MARK_LIMIT

-- the blocks that the eight with a number takes
abbrev pub eight_blocks : List BlockInfo → ℕ → ℕ
eight_blocks infos k = blocks_to_mark (eight infos k)

-- the greatest of f over the numbers below n
unfoldable pub greatest : (ℕ → ℕ) → ℕ → ℕ
greatest f zero = 0
greatest f (suc n) = max (f n) (greatest f n)

-- the blocks that it takes to write the blocks of some infos again, eight by eight, each with its summary and records
unfoldable pub blocks_by_eights : List BlockInfo → ℕ
blocks_by_eights infos = total (eight_blocks infos) (eights infos)

-- the blocks that the largest eight takes
unfoldable pub widest_eight : List BlockInfo → ℕ
widest_eight infos = greatest (eight_blocks infos) (eights infos)

-- the blocks that it takes to clean a segment of a store in which nothing waits
abbrev pub pass_blocks : Parts → ℕ → ℕ
pass_blocks p segment = blocks_by_eights (live_infos p segment)

-- the most of them that are written at once
abbrev pub widest : Parts → ℕ → ℕ
widest p segment = widest_eight (live_infos p segment)

-- So many blocks, of which so many are written at once at most, are less than a segment has, and can be written: in
-- what the active one has left; or with a clean segment, where what is left behind in the active one, less than is
-- written at once, is made up for too.
abbrev pub IsWorth : ℕ → ℕ → Parts → Type 0
IsWorth blocks most p =
    (blocks < WHOLE) × ((blocks ≤ room_of p.log.memory)
    ⊎ ((0 < p.log.clean) × (blocks + most ≤ WHOLE)))

-- A dirty segment is gainful: cleaning it can be done, and gains room.
pub record IsGainful (p : Parts) (segment : ℕ) : Type 0 where
  pub inside : segment < p.log.memory.segments
  pub dirty : state_of p.log.tables segment ≡ Dirty
  pub worth : IsWorth (pass_blocks p segment) (widest p segment) p

-- no segment is
abbrev pub NoneIsGainful : Parts → Type 0
NoneIsGainful p = (segment : ℕ) → IsGainful p segment → ⊥

-- the blocks that can be written where nothing waits: those of the clean segments, and what the active one has left
abbrev pub space : Parts → ℕ
space p = WHOLE * p.log.clean + room_of p.log.memory

-- The blocks that some infos name don't fit what the active segment has left, and no segment is clean.
pub record ExceedsRoom (marks : List BlockInfo) (p : Parts) : Type 0 where
  pub named : List BlockInfo
  pub are_named : AreNamed (log_state p) marks named
  pub none : p.log.clean ≡ 0
  pub short : room_of p.log.memory < blocks_to_mark named

-- So many blocks were written at most, and so many at once at most: where the log ended; or, where they had no room
-- there, some of them in a segment that was opened, and what was left in the one before was less than was written at
-- once.
abbrev pub Spends : ℕ → ℕ → Parts → Parts → Type 0
Spends blocks most old new =
    ((new.log.clean ≡ old.log.clean) × (room_of old.log.memory ≤ room_of new.log.memory + blocks))
    ⊎ ((new.log.clean + 1 ≡ old.log.clean) × (WHOLE ≤ room_of new.log.memory + blocks)
    × (room_of old.log.memory + WHOLE < room_of new.log.memory + blocks + most)
    × (room_of old.log.memory < blocks))

-- Blocks were written again, with what they had. What moved went to segments that weren't dirty; these are dirty still,
-- and their blocks are what they were. So is the label, block 0.
pub record MovesBlocks (old new : Parts) : Type 0 where
  pub store : IsStore new
  pub flushed : IsFlushed new
  pub content : content_of new ≡ content_of old
  pub segments : new.log.memory.segments ≡ old.log.memory.segments
  pub serials : has_serials new.log.memory ≡ has_serials old.log.memory
  pub rising : IsRising old.log.memory → IsRising new.log.memory
  pub whole : IsRecoverable old.log.memory → IsRecoverable new.log.memory
  pub ordered : IsRecoverable old.log.memory → IsOrdered old.log → IsOrdered new.log
  pub numbers : length new.log.tables.rows ≡ length old.log.tables.rows
  pub used : (number : ℕ) → (row_of new.log.tables number).used
      ≡ (row_of old.log.tables number).used
  pub versions : (number : ℕ) → version_of new number ≡ version_of old number
  pub moves : Moves (DirtyIn (log_state old)) (log_state old) (log_state new)
  pub dirty : StaysDirty (log_state old) (log_state new)
  pub label : block_at new.log.memory 0 ≡ block_at old.log.memory 0
  pub blocks : (a : ℕ) → a / SEGMENT_BLOCKS < old.log.memory.segments
      → DirtyIn (log_state old) (a / SEGMENT_BLOCKS)
      → block_at new.log.memory a ≡ block_at old.log.memory a

-- The blocks of the first so many eights of some infos were written again, so that none of these infos names a block
-- now. Each key that is on no way to one of them has the place that it had.
pub record MovesEights (infos : List BlockInfo) (count : ℕ) (old new : Parts) : Type 0 where
  pub moved : MovesBlocks old new
  pub gone : All (λ (info : BlockInfo). IsNamed (log_state new) info → ⊥)
      (take (MARK_LIMIT * count) infos)
  pub still : (number code : ℕ) → number < length old.log.tables.rows → code < BLOCK_CODES
      → (IsOnWay infos old number code → ⊥)
      → (log_state new).at number code ≡ (log_state old).at number code
  pub spent : Spends (total (eight_blocks infos) count) (widest_eight infos) old new

-- A dirty segment was emptied: no block is left in it, and what it took was counted before. Each key that was on no way
-- to one of its blocks has the place that it had.
pub record Empties (segment : ℕ) (old new : Parts) : Type 0 where
  pub moved : MovesBlocks old new
  pub dirty : state_of new.log.tables segment ≡ Dirty
  pub empty : live_of new.log.tables segment ≡ 0
  pub still : (number code : ℕ) → number < length old.log.tables.rows → code < BLOCK_CODES
      → (IsOnWay (live_infos old segment) old number code → ⊥)
      → (log_state new).at number code ≡ (log_state old).at number code
  pub spent : Spends (pass_blocks old segment) (widest old segment) old new
  pub gains : space old < space new + WHOLE
