-- the bytes of an ifile
use Rattle.std.specs.Prelude.{◌≡◌, ℕ, ◌+◌, ◌*◌, ◌<◌, ◌≤◌, Bool, List, [], ◌∷◌, ◌++◌, length, slice_index, if◌then◌else◌}
use Rattle.std.specs.Int.{w32, from_be_bytes}
use Rattle.std.specs.List.{flat_map, zip}
use Rattle.byteorder.specs.Endian.{big_bytes}
use Rattle.lfs_ifile.specs.declared.segment.SegState.{SegState}
use Rattle.lfs_ifile.specs.declared.segment.SegUse.{SegUse}
use Rattle.lfs_ifile.specs.declared.inode.InodeRow.{InodeRow}
use Rattle.lfs_ifile.specs.Segment.{state_number}
use Rattle.lfs_types.specs.declared.limits.TheConstants.{SEGMENT_BLOCKS}
use Rattle.lfs_types.specs.Ranges.{least_segments, most_segments, least_inodes, most_inodes}
use Rattle.lfs_ifile.specs.declared.fault.IfileFault.{IfileFault}
use Rattle.lfs_ifile.specs.declared.fault.IfileFault.TheVariants.{Head, Segment, Row, Memory}
use Rattle.lfs_ifile.specs.declared.segment.TheConstants.{SEGMENT_BYTES}
use Rattle.lfs_ifile.specs.Inode.{IsRow}
use Rattle.lfs_ifile.specs.Tables.{Tables, row_of, usage_of}

-- a number in four bytes, and in two, the highest first
unfoldable pub u32_bytes : ℕ → List ℕ
u32_bytes number = big_bytes 4 number

unfoldable pub u16_bytes : ℕ → List ℕ
u16_bytes number = big_bytes 2 number

-- `LFIF`, the number of segments, the number of inode numbers
abbrev pub header_bytes : ℕ → ℕ → List ℕ
header_bytes segments inodes = u32_bytes 0x4c46_4946 ++ u32_bytes segments ++ u32_bytes inodes

-- a segment's live bytes and its state
abbrev pub segment_bytes : ℕ × SegState → List ℕ
segment_bytes segment = u32_bytes segment.0 ++ u32_bytes (state_number segment.1)

-- an inode number's address, slot, whether it is used, and its version
abbrev pub row_bytes : InodeRow → List ℕ
row_bytes row = u32_bytes row.address ++ u16_bytes row.slot ++ u16_bytes (if row.used then 1 else 0)
    ++ u32_bytes row.version

-- the bytes of an ifile: the header, each segment from 0, each inode number from 0
abbrev pub ifile_bytes : Tables → List ℕ
ifile_bytes tables =
    header_bytes (length tables.live) (length tables.rows)
    ++ flat_map segment_bytes (zip tables.live tables.states)
    ++ flat_map row_bytes tables.rows

-- the number in the four bytes from a place on, the highest first
unfoldable pub number_at : List ℕ → ℕ → ℕ
number_at bytes place =
    from_be_bytes w32 (slice_index bytes place ∷ slice_index bytes (place + 1)
    ∷ slice_index bytes (place + 2)
    ∷ slice_index bytes (place + 3) ∷ [])

-- the first four bytes are `LFIF`, and the length is that of the header's two numbers
pub record IsLaidOut (bytes : List ℕ) : Type 0 where
  pub magic : number_at bytes 0 ≡ 0x4c46_4946
  pub size : length bytes ≡ 12 + 8 * number_at bytes 4 + 12 * number_at bytes 8

-- the bytes are laid out as an ifile with such a segment, and say so of its use
pub record ReadsUse (bytes : List ℕ) (seg : ℕ) (use_read : SegUse) : Type 0 where
  pub laid_out : IsLaidOut bytes
  pub segment : seg < number_at bytes 4
  pub live : use_read.live ≡ number_at bytes (12 + 8 * seg)
  pub state : state_number use_read.state ≡ number_at bytes (16 + 8 * seg)

-- the first four bytes, the numbers of segments and of inode numbers in their ranges, and the length are those of an
-- ifile
pub record IsHead (bytes : List ℕ) : Type 0 where
  pub laid_out : IsLaidOut bytes
  pub segments_least : least_segments ≤ number_at bytes 4
  pub segments_most : number_at bytes 4 ≤ most_segments
  pub inodes_least : least_inodes ≤ number_at bytes 8
  pub inodes_most : number_at bytes 8 ≤ most_inodes

-- 1 for a used number
abbrev pub flag : Bool → ℕ
flag used = if used then 1 else 0

-- twelve bytes from a place on say so of a row
pub record ReadsRow (bytes : List ℕ) (place : ℕ) (row : InodeRow) : Type 0 where
  pub address : row.address ≡ number_at bytes place
  pub slot_and_use : 65536 * row.slot + flag row.used ≡ number_at bytes (place + 4)
  pub version : row.version ≡ number_at bytes (place + 8)

-- where the row of an inode number stands, behind so many segments
abbrev pub row_place : ℕ → ℕ → ℕ
row_place segments number = 12 + 8 * segments + 12 * number

-- eight bytes say so of a segment
pub record ReadsSegment (bytes : List ℕ) (seg : ℕ) (use_read : SegUse) : Type 0 where
  pub live : use_read.live ≡ number_at bytes (12 + 8 * seg)
  pub state : state_number use_read.state ≡ number_at bytes (16 + 8 * seg)

-- the bytes say these tables
pub record ReadsTables (bytes : List ℕ) (tables : Tables) : Type 0 where
  pub laid_out : IsLaidOut bytes
  pub segments : length tables.live ≡ number_at bytes 4
  pub inodes : length tables.rows ≡ number_at bytes 8
  pub uses : (seg : ℕ) → seg < length tables.live → ReadsSegment bytes seg (usage_of tables seg)
  pub each_row : (number : ℕ) → number < length tables.rows
      → ReadsRow bytes (row_place (length tables.live) number) (row_of tables number)

-- what a fault says of bytes; want of memory says nothing of them
abbrev pub IsIfileFaultOf : List ℕ → IfileFault → Type 0
IsIfileFaultOf bytes Head = IsHead bytes → ⊥
IsIfileFaultOf bytes (Segment segment) =
    (segment < number_at bytes 4) × ((any : SegUse) → ReadsSegment bytes segment any
    → any.live ≤ SEGMENT_BYTES → ⊥)
IsIfileFaultOf bytes (Row number) =
    (number < number_at bytes 8)
    × ((any : InodeRow) → ReadsRow bytes (row_place (number_at bytes 4) number) any
    → IsRow (SEGMENT_BLOCKS * number_at bytes 4) any → ⊥)
IsIfileFaultOf bytes Memory = Unit {0}
