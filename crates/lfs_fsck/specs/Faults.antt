-- What is wrong with a log on which no store may stand.
use Rattle.std.specs.Prelude.{◌≡◌, ◌≢◌, ℕ, ◌+◌, ◌-◌, ◌*◌, ◌<◌, ◌≤◌, [], None, Some, true}
use Rattle.lfs_types.specs.Blocks.{zero_block}
use Rattle.lfs_types.specs.declared.limits.TheConstants.{FIRST_INODE, ROOT_INODE, SEGMENT_BLOCKS}
use Rattle.lfs_segments.specs.Log.{expected_at}
use Rattle.lfs_segments.specs.Memory.{block_at, next_address}
use Rattle.lfs_ifile.specs.declared.segment.SegState.TheVariants.{Clean}
use Rattle.lfs_ifile.specs.Tables.{row_of}
use Rattle.lfs_inodes.specs.Facts.{block_count}
use Rattle.lfs_inodes.specs.Reading.{Fields}
use Rattle.lfs_bmap.specs.declared.blocks.FileBlock.{FileBlock}
use Rattle.lfs_bmap.specs.declared.blocks.TheConstants.{BLOCK_CODES}
use Rattle.lfs_bmap.specs.Blocks.{IsFileBlock, code_of, first_under, way_to}
use Rattle.lfs_bmap.specs.Counting.{live_bytes, seg_of}
use Rattle.lfs_bmap.specs.Log.{IsPlaced, owner_of}
use Rattle.lfs_bmap.specs.Pieces.{IsPadded}
use Rattle.lfs_bmap.specs.Reading.{address, data_block}
use Rattle.lfs_log.specs.Parts.{LogParts, live_of}
use Rattle.lfs_parts.specs.View.{record_of, tree_of, version_of}
use Rattle.lfs_fsck.specs.declared.fault.LogFault.{LogFault}
use Rattle.lfs_fsck.specs.declared.fault.LogFault.TheVariants.{Unfinished, NotZeros, Reserved, NoRecord, OtherRecord}
use Rattle.lfs_fsck.specs.declared.fault.LogFault.TheVariants.{Outside, Misnamed, InClean, Unwritten, PastSize, Tail}
use Rattle.lfs_fsck.specs.declared.fault.LogFault.TheVariants.{Live, Crowded, Memory}
use Rattle.lfs_fsck.specs.Stored.{keys_of, flushed}

-- the log has a record at the place of a number, of another number or version
pub record HasOtherRecord (l : LogParts) (number : ℕ) : Type 0 where
  pub fields : Fields
  pub is : record_of (flushed l) number ≡ Some fields
  pub other : fields.attributes.number ≡ number → fields.attributes.version ≡ version_of (flushed l) number → ⊥

-- a block of a number has an address, and lies past the size
pub record HasPastSize (l : LogParts) (number code : ℕ) : Type 0 where
  pub fields : Fields
  pub is : record_of (flushed l) number ≡ Some fields
  pub block : FileBlock
  pub can : IsFileBlock block
  pub coded : code_of block ≡ code
  pub past : block_count fields.attributes.size ≤ first_under block
  pub somewhere : address (tree_of (flushed l) number) (way_to block) ≢ 0

-- the file of a number has a byte past its size that isn't zero
pub record HasTail (l : LogParts) (number : ℕ) : Type 0 where
  pub fields : Fields
  pub is : record_of (flushed l) number ≡ Some fields
  pub not_padded : IsPadded (data_block (tree_of (flushed l) number)) fields.attributes.size → ⊥

-- What a fault says of a log; want of memory says nothing of it. A key is a number and the code of one of its blocks.
abbrev pub IsLogFaultOf : LogParts → LogFault → Type 0
IsLogFaultOf l (Unfinished segment) =
    (segment ≡ l.memory.active) × (expected_at l.memory l.memory.active (next_address l.memory) ≢ Some [])
IsLogFaultOf l (NotZeros address) =
    (next_address l.memory ≤ address) × (address < l.memory.active * SEGMENT_BLOCKS + SEGMENT_BLOCKS)
    × (block_at l.memory address ≢ zero_block)
IsLogFaultOf l (Reserved number) = ((row_of l.tables number).used ≡ true) × (number < FIRST_INODE)
    × (number ≢ ROOT_INODE)
IsLogFaultOf l (NoRecord number) = ((row_of l.tables number).used ≡ true) × (record_of (flushed l) number ≡ None)
IsLogFaultOf l (OtherRecord number) = HasOtherRecord l number
IsLogFaultOf l (Outside number code) =
    IsPlaced (keys_of l) number code × (4 * SEGMENT_BLOCKS * l.memory.segments ≤ (keys_of l).at number code)
IsLogFaultOf l (Misnamed number code) =
    IsPlaced (keys_of l) number code × ((keys_of l).owner ((keys_of l).at number code) ≢ Some
    (owner_of (keys_of l) number code))
IsLogFaultOf l (InClean number code) =
    IsPlaced (keys_of l) number code × ((keys_of l).state (seg_of ((keys_of l).at number code)) ≡ Clean)
IsLogFaultOf l (Unwritten number code) =
    IsPlaced (keys_of l) number code × (seg_of ((keys_of l).at number code) ≡ l.memory.active)
    × (4 * next_address l.memory ≤ (keys_of l).at number code)
IsLogFaultOf l (PastSize number code) = HasPastSize l number code
IsLogFaultOf l (Tail number) = HasTail l number
IsLogFaultOf l (Live segment) =
    (segment < l.memory.segments)
    × (live_of l.tables segment ≢ live_bytes (keys_of l).numbers BLOCK_CODES (keys_of l).at segment)
IsLogFaultOf l (Crowded segment) =
    (segment ≡ l.memory.active)
    × (512 * (next_address l.memory - SEGMENT_BLOCKS * l.memory.active) < live_of l.tables l.memory.active)
IsLogFaultOf l Memory = Unit {0}

-- So of a fault of a log's files and of its end: never one of its counts of live bytes.
abbrev pub IsFileFaultOf : LogParts → LogFault → Type 0
IsFileFaultOf l (Unfinished segment) = IsLogFaultOf l (Unfinished segment)
IsFileFaultOf l (NotZeros address) = IsLogFaultOf l (NotZeros address)
IsFileFaultOf l (Reserved number) = IsLogFaultOf l (Reserved number)
IsFileFaultOf l (NoRecord number) = IsLogFaultOf l (NoRecord number)
IsFileFaultOf l (OtherRecord number) = IsLogFaultOf l (OtherRecord number)
IsFileFaultOf l (Outside number code) = IsLogFaultOf l (Outside number code)
IsFileFaultOf l (Misnamed number code) = IsLogFaultOf l (Misnamed number code)
IsFileFaultOf l (InClean number code) = IsLogFaultOf l (InClean number code)
IsFileFaultOf l (Unwritten number code) = IsLogFaultOf l (Unwritten number code)
IsFileFaultOf l (PastSize number code) = IsLogFaultOf l (PastSize number code)
IsFileFaultOf l (Tail number) = IsLogFaultOf l (Tail number)
IsFileFaultOf l (Live segment) = ⊥
IsFileFaultOf l (Crowded segment) = ⊥
IsFileFaultOf l Memory = Unit {0}
