-- What the numbers of a head say, and which of them a volume may have.
use Rattle.std.specs.Prelude.{◌≡◌, ℕ, ◌+◌, ◌*◌, ◌<◌, ◌≤◌, List, Option}
use Rattle.lfs_types.specs.declared.block.TheConstants.{BLOCK_SIZE}
use Rattle.lfs_types.specs.declared.limits.TheConstants.{SEGMENT_BLOCKS}
use Rattle.lfs_types.specs.Ranges.{least_inodes, least_segments, most_inodes, most_segments}
use Rattle.lfs_ifile.specs.Layout.{number_at}
use Rattle.lfs_segments.specs.Memory.{IsNextSerial, log_start}
use Rattle.lfs_image.specs.declared.head.Head.{Head}
use Rattle.lfs_image.specs.Image.{level_word, serial_word}

-- bytes begin with the mark, the form and the numbers of a head
pub record ReadsHead (bytes : List ℕ) (h : Head) : Type 0 where
  pub mark : number_at bytes 0 ≡ 0x4c46_5349
  pub form : number_at bytes 4 ≡ 1
  pub segments : number_at bytes 8 ≡ h.segments
  pub inodes : number_at bytes 12 ≡ h.inodes
  pub active : number_at bytes 16 ≡ h.active
  pub used : number_at bytes 20 ≡ h.used
  pub level : number_at bytes 24 ≡ level_word h.level
  pub serial : number_at bytes 28 ≡ serial_word h.serial
  pub told : IsNextSerial h.serial

-- a volume may have so many segments and inode numbers, this segment active with so many of its blocks used, and this
-- serial for the next summary
pub record IsInRange (segments inodes active used : ℕ) (serial : Option ℕ) : Type 0 where
  pub segments_least : least_segments ≤ segments
  pub segments_most : segments ≤ most_segments
  pub inodes_least : least_inodes ≤ inodes
  pub inodes_most : inodes ≤ most_inodes
  pub active_inside : active < segments
  pub begun : log_start active ≤ used
  pub within : used ≤ SEGMENT_BLOCKS
  pub told : IsNextSerial serial

-- such a head
abbrev pub MayHead : Head → Type 0
MayHead h = IsInRange h.segments h.inodes h.active h.used h.serial

-- where the ifile begins behind the blocks, by the head's number of segments
abbrev pub ifile_place : List ℕ → ℕ
ifile_place bytes = BLOCK_SIZE + BLOCK_SIZE * (number_at bytes 8 * SEGMENT_BLOCKS)

-- how many bytes there are to be, by the head's numbers
abbrev pub length_told : List ℕ → ℕ
length_told bytes = ifile_place bytes + (12 + 8 * number_at bytes 8 + 12 * number_at bytes 12)
