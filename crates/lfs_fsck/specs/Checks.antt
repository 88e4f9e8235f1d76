-- How far a check has come: keys, live bytes and files so far.
use Rattle.std.specs.Prelude.{◌≡◌, ◌≢◌, ℕ, ◌+◌, ◌*◌, ◌<◌, List, Some, true, length, slice_index}
use Rattle.lfs_types.specs.declared.limits.TheConstants.{FIRST_INODE, ROOT_INODE, SEGMENT_BLOCKS}
use Rattle.lfs_ifile.specs.declared.segment.SegState.TheVariants.{Clean}
use Rattle.lfs_ifile.specs.Tables.{row_of}
use Rattle.lfs_inodes.specs.declared.inode.Inode.{Inode}
use Rattle.lfs_inodes.specs.Reading.{AreFields, Fields, fields_of}
use Rattle.lfs_bmap.specs.declared.blocks.FileBlock.{FileBlock}
use Rattle.lfs_bmap.specs.declared.blocks.TheConstants.{BLOCK_CODES}
use Rattle.lfs_bmap.specs.Blocks.{IsFileBlock, block_with, code_of, way_to}
use Rattle.lfs_bmap.specs.Counting.{live_bytes, seg_of, total, weight_of}
use Rattle.lfs_bmap.specs.Log.{IsPlace, LogState, owner_of}
use Rattle.lfs_bmap.specs.Reading.{address}
use Rattle.lfs_log.specs.Parts.{LogParts, live_of}
use Rattle.lfs_parts.specs.Store.{IsFile, IsWithin}
use Rattle.lfs_parts.specs.View.{blocks_of, record_of, tree_of, version_of}
use Rattle.lfs_fsck.specs.Stored.{keys_of, flushed}

-- an inode is the record that the log has of its number, which is in use
pub record IsRecordOf (l : LogParts) (v : Inode) : Type 0 where
  pub below : v.number < length l.tables.rows
  pub in_use : (row_of l.tables v.number).used ≡ true
  pub at_version : v.version ≡ version_of (flushed l) v.number
  pub is : record_of (flushed l) v.number ≡ Some (fields_of v)
  pub formed : AreFields (fields_of v)

-- the blocks of a number with codes below one lie in the volume
pub record LieBelow (l : LogParts) (number code : ℕ) : Type 0 where
  pub each : (t : FileBlock) → IsFileBlock t → code_of t < code
      → address (tree_of (flushed l) number) (way_to t) < blocks_of (flushed l)

-- what holds of a key that has a place: of the place, and that the block lies below the size
pub record IsKey (l : LogParts) (number code : ℕ) : Type 0 where
  pub place : IsPlace (keys_of l) number code ((keys_of l).at number code)
  pub within : (f : Fields) → record_of (flushed l) number ≡ Some f → code ≢ 0
      → IsWithin (block_with code) f.attributes.size

-- a key has no place, or a good one
abbrev pub IsKept : LogParts → ℕ → ℕ → Type 0
IsKept l number code = (keys_of l).at number code ≢ 0 → IsKey l number code

-- the live bytes of a segment that are those of the numbers before one, and of this number's codes before one
abbrev pub live_before : LogParts → ℕ → ℕ → ℕ → ℕ
live_before l number code segment =
    live_bytes number BLOCK_CODES (keys_of l).at segment
    + total (λ c. weight_of ((keys_of l).at number c) segment c) code

-- The keys of the numbers before one, and this number's before a code, are good; for each segment their live bytes are
-- counted.
pub record IsCounted (l : LogParts) (number code : ℕ) (counts : List ℕ) : Type 0 where
  pub earlier : (n c : ℕ) → n < number → c < BLOCK_CODES → IsKept l n c
  pub here : (c : ℕ) → c < code → IsKept l number c
  pub long : length counts ≡ l.memory.segments
  pub sums : (s : ℕ) → s < l.memory.segments → slice_index counts s ≡ live_before l number code s

-- where a place lies: in the volume, in no clean segment, and in the active one before its end
pub record IsLaid (l : LogState) (place : ℕ) : Type 0 where
  pub in_volume : place < 4 * SEGMENT_BLOCKS * l.segments
  pub not_clean : l.state (seg_of place) ≢ Clean
  pub written : seg_of place ≡ l.active → place < 4 * l.next

-- the log names a key at its place
abbrev pub IsOwned : LogState → ℕ → ℕ → Type 0
IsOwned l number code = l.owner (l.at number code) ≡ Some (owner_of l number code)

-- the record of a number in use is well formed, and its own
pub record IsChecked (l : LogParts) (number : ℕ) : Type 0 where
  pub fields : Fields
  pub is : record_of (flushed l) number ≡ Some fields
  pub file : IsFile (flushed l) number fields

-- a number that isn't in use, or one whose file is well formed, and that may be in use
pub record IsUsable (l : LogParts) (number : ℕ) : Type 0 where
  pub allowed : number < FIRST_INODE → number ≡ ROOT_INODE
  pub checked : IsChecked l number

abbrev pub IsFine : LogParts → ℕ → Type 0
IsFine l number = (row_of l.tables number).used ≡ true → IsUsable l number

-- each number before one
pub record AreChecked (l : LogParts) (number : ℕ) : Type 0 where
  pub each : (n : ℕ) → n < number → IsFine l n

-- the live bytes of a segment are those of the keys that lie there
abbrev pub IsLive : LogParts → ℕ → Type 0
IsLive l segment = live_of l.tables segment ≡ live_bytes (keys_of l).numbers BLOCK_CODES (keys_of l).at segment
