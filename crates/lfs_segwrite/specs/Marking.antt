-- Blocks that are written again at the log's end, as a cleaner asks.
use Rattle.std.specs.Prelude.{◌≡◌, ◌≢◌, ◌⊎◌, ℕ, zero, suc, ◌+◌, ◌<◌, ◌≤◌, ◌==◌, List, [], ◌∷◌, ◌++◌, All}
use Rattle.std.specs.Prelude.{Contains, AllPairs, length, map, min, if◌then◌else◌, nat_lt, IsSome}
use Rattle.std.specs.List.{flat_map}
use Rattle.std.specs.Set.{distinct_count}
use Rattle.lfs_types.specs.declared.cleaner.BlockInfo.{BlockInfo}
use Rattle.lfs_types.specs.declared.limits.TheConstants.{SEGMENT_BLOCKS}
use Rattle.lfs_ifile.specs.Tables.{row_of}
use Rattle.lfs_segments.specs.Memory.{room_of}
use Rattle.lfs_cache.specs.declared.key.Key.{Key}
use Rattle.lfs_cache.specs.Contents.{IsLocked}
use Rattle.lfs_cache.specs.Keys.{same_key}
use Rattle.lfs_segments.specs.Reading.{block_from}
use Rattle.lfs_bmap.specs.declared.blocks.TheConstants.{BLOCK_CODES}
use Rattle.lfs_bmap.specs.Blocks.{code_of, file_block_of}
use Rattle.lfs_bmap.specs.Counting.{seg_of}
use Rattle.lfs_bmap.specs.Log.{LogState}
use Rattle.lfs_bmap.specs.Moves.{DirtyIn, present_address}
use Rattle.lfs_bmap.specs.Reading.{address, data_block}
use Rattle.lfs_bmap.specs.Ways.{IsBlockWay, codes_on, way_of}
use Rattle.lfs_parts.specs.declared.parts.Parts.{Parts}
use Rattle.lfs_segwrite.specs.Collecting.{inode_blocks}
use Rattle.lfs_segwrite.specs.Flushing.{FlushesAhead, Waits, WritesAhead}
use Rattle.lfs_parts.specs.Keys.{log_state}
use Rattle.lfs_staging.specs.Staging.{IsStaged, TakesOnly}
use Rattle.lfs_parts.specs.View.{key_of, record_of, tree_of, version_of, waiting_in}

-- the code of the block that an info names, BLOCK_CODES where no file can have such a block
unfoldable pub code_named : ℕ → ℕ
code_named lbn = min (code_of (file_block_of (block_from lbn))) BLOCK_CODES

-- An info names a block: its address isn't 0, and is the present one of the block with that number, version and code.
pub record IsNamed (l : LogState) (info : BlockInfo) : Type 0 where
  pub somewhere : info.addr ≢ 0
  pub present : present_address l info.ino info.version (code_named info.lbn) ≡ info.addr

-- A list has each info of another that names a block, and nothing else; no two of them name the same block.
pub record AreNamed (l : LogState) (marks named : List BlockInfo) : Type 0 where
  pub each : (info : BlockInfo) → Contains marks info → IsNamed l info → Contains named info
  pub marked : All (λ (info : BlockInfo). Contains marks info) named
  pub only : All (IsNamed l) named
  pub once : AllPairs (λ (a b : BlockInfo). a.ino ≡ b.ino
      → code_named a.lbn ≡ code_named b.lbn → ⊥) named

-- an info was added to a list, if it names a block and wasn't there
abbrev pub AddsNamed : LogState → BlockInfo → List BlockInfo → List BlockInfo → Type 0
AddsNamed l info old new =
    ((new ≡ old) × (IsNamed l info → Contains old info))
    ⊎ ((new ≡ old ++ info ∷ []) × IsNamed l info × (Contains old info → ⊥))

-- the codes of the blocks on the way to the block with a code, but for the record's; none where no file can have the
-- block
unfoldable pub codes_to_mark : ℕ → List ℕ
codes_to_mark code = if nat_lt code BLOCK_CODES then codes_on (way_of code) else []

-- the keys of the blocks on the way to the block of an info
abbrev pub keys_to_mark : BlockInfo → List Key
keys_to_mark info = map (key_of info.ino info.version) (codes_to_mark (code_named info.lbn))

-- the number of an info
abbrev pub number_named : BlockInfo → ℕ
number_named info = info.ino

-- the frames that the blocks of some infos take at most: one for each block on the ways to them, though it be on
-- several
abbrev pub frames_to_mark : List BlockInfo → ℕ
frames_to_mark named = distinct_count same_key (flat_map keys_to_mark named)

-- the records that they take at most: one for each number, though it have several of the blocks
abbrev pub records_to_mark : List BlockInfo → ℕ
records_to_mark named = distinct_count ◌==◌ (map number_named named)

-- the blocks of the log that these take at most: a summary, their frames, and an inode block for each four records
abbrev pub blocks_to_mark : List BlockInfo → ℕ
blocks_to_mark named = frames_to_mark named + inode_blocks (records_to_mark named) + 1

-- What waits reads as what was there: each record, data block and address is what it was.
pub record SameShown (old new : Parts) : Type 0 where
  pub log : new.log ≡ old.log
  pub records : (n : ℕ) → record_of new n ≡ record_of old n
  pub blocks : (n m : ℕ) → data_block (tree_of new n) m ≡ data_block (tree_of old n) m
  pub addresses : (n : ℕ) (way : List ℕ) → IsBlockWay way
      → address (tree_of new n) way ≡ address (tree_of old n) way

-- The block with a code of a number waits with what it had, and what waited does still. What waits more is on the way
-- to it.
pub record StagesAgain (number code : ℕ) (old new : Parts) : Type 0 where
  pub same : SameShown old new
  pub waits : Waits new number code
  pub frames_still : (key : Key) → IsLocked key old.cache → IsLocked key new.cache
  pub records_still : (n : ℕ) → IsSome (waiting_in old.waiting n)
      → IsSome (waiting_in new.waiting n)
  pub frames : TakesOnly number (version_of old number) (codes_to_mark code) old.cache new.cache
  pub records : (n : ℕ) → IsSome (waiting_in new.waiting n)
      → (n ≡ number) ⊎ IsSome (waiting_in old.waiting n)

-- So do the blocks of some infos, where nothing waited. What waits is on the ways to them, and no more than was
-- reckoned.
pub record StagesNamed (named : List BlockInfo) (old new : Parts) : Type 0 where
  pub same : SameShown old new
  pub staged : IsStaged new 0
  pub waits : All (λ (info : BlockInfo). Waits new info.ino (code_named info.lbn)) named
  pub only_frames : (key : Key) → IsLocked key new.cache
      → Contains (flat_map keys_to_mark named) key
  pub only_records : (n : ℕ) → IsSome (waiting_in new.waiting n)
      → Contains (map number_named named) n
  pub frames : length new.cache.locked ≤ frames_to_mark named
  pub records : length new.waiting ≤ records_to_mark named

-- a key is written again for some infos: the record of a number that one of them has, or a block on the way to the
-- block of one
abbrev pub IsOnWay : List BlockInfo → Parts → ℕ → ℕ → Type 0
IsOnWay named p number zero = Contains (map number_named named) number
IsOnWay named p number (suc code) = Contains (flat_map keys_to_mark named)
    (key_of number (version_of p number) (suc code))

-- A block has another place, outside the segments that were dirty.
pub record IsRewritten (old new : LogState) (info : BlockInfo) : Type 0 where
  pub somewhere : new.at info.ino (code_named info.lbn) ≢ 0
  pub elsewhere : new.at info.ino (code_named info.lbn) ≢ old.at info.ino (code_named info.lbn)
  pub outside : DirtyIn old (seg_of (new.at info.ino (code_named info.lbn))) → ⊥

-- The blocks that some infos name were written again, so many, in one flush, and nothing was done where none is named.
-- Each key that is on no way to one of them has the place that it had, and the log grew by no more than the blocks that
-- they take: where it ended, or from the start of a segment that was opened for them, where they had no room.
pub record MarksFlushed (marks : List BlockInfo) (count : ℕ) (old new : Parts) : Type 0 where
  pub named : List BlockInfo
  pub are_named : AreNamed (log_state old) marks named
  pub counted : count ≡ length named
  pub rewritten : All (IsRewritten (log_state old) (log_state new)) named
  pub log : WritesAhead old new
  pub flush : (new ≡ old) ⊎ FlushesAhead old new
  pub used : (number : ℕ) → (row_of new.log.tables number).used
      ≡ (row_of old.log.tables number).used
  pub versions : (number : ℕ) → version_of new number ≡ version_of old number
  pub opened : old.log.clean ≤ new.log.clean + 1
  pub enough : blocks_to_mark named ≤ room_of old.log.memory → new.log.clean ≡ old.log.clean
  pub none : count ≡ 0 → new ≡ old
  pub still : (number code : ℕ) → number < length old.log.tables.rows → code < BLOCK_CODES
      → (IsOnWay named old number code → ⊥)
      → (log_state new).at number code ≡ (log_state old).at number code
  pub left : ((new.log.memory.active ≡ old.log.memory.active)
      × (room_of old.log.memory ≤ room_of new.log.memory + blocks_to_mark named)
      × (new.log.clean ≡ old.log.clean))
      ⊎ ((SEGMENT_BLOCKS ≤ room_of new.log.memory + blocks_to_mark named + 1)
      × (new.log.clean + 1 ≡ old.log.clean) × (room_of old.log.memory < blocks_to_mark named))
