-- What is wrong with bytes that are the image of no store.
use Rattle.std.specs.Prelude.{◌≡◌, ◌≢◌, ℕ, ◌<◌, ◌≤◌, ◌⊎◌, List, length, take, drop}
use Rattle.lfs_types.specs.declared.block.TheConstants.{BLOCK_SIZE}
use Rattle.lfs_types.specs.declared.level.Level.{Level}
use Rattle.lfs_types.specs.declared.limits.TheConstants.{SEGMENT_BLOCKS}
use Rattle.lfs_types.specs.Ranges.{least_inodes, least_segments, most_inodes, most_segments}
use Rattle.lfs_segments.specs.Memory.{log_start}
use Rattle.lfs_ifile.specs.declared.fault.IfileFault.TheVariants as ifile_fault
use Rattle.lfs_ifile.specs.Layout.{IsIfileFaultOf, ifile_bytes, number_at}
use Rattle.lfs_ifile.specs.Tables.{IsIfile, Tables}
use Rattle.lfs_log.specs.Parts.{IsActiveAlone, LogParts}
use Rattle.lfs_fsck.specs.declared.fault.LogFault.TheVariants as log_fault
use Rattle.lfs_fsck.specs.Faults.{IsLogFaultOf}
use Rattle.lfs_image.specs.declared.fault.ImageFault.{ImageFault}
use Rattle.lfs_image.specs.declared.fault.ImageFault.TheVariants.{Short, Long, Mark, Form, Segments, Inodes, Active}
use Rattle.lfs_image.specs.declared.fault.ImageFault.TheVariants.{Used, Securelevel, Gap, IfileHead, IfileSegment}
use Rattle.lfs_image.specs.declared.fault.ImageFault.TheVariants.{IfileRow, Apart, Label, Log, Memory}
use Rattle.lfs_image.specs.declared.head.Head.{Head}
use Rattle.lfs_image.specs.Heads.{MayHead, ifile_place, length_told}
use Rattle.lfs_image.specs.Image.{IsImageOf, IsLabelled, head_bytes}

-- a number is less than one or more than another
abbrev pub IsOutside : ℕ → ℕ → ℕ → Type 0
IsOutside least most number = (number < least) ⊎ (most < number)

-- behind the blocks stands an ifile of other numbers of segments or of inode numbers than the head has, or one in which
-- the head's active segment isn't the only active one
pub record IsApart (bytes : List ℕ) : Type 0 where
  pub tables : Tables
  pub formed : IsIfile tables
  pub stands : ifile_bytes tables ≡ drop (ifile_place bytes) bytes
  pub apart : length tables.live ≡ number_at bytes 8 → length tables.rows ≡ number_at bytes 12
      → IsActiveAlone tables (number_at bytes 16) → ⊥

-- What a fault says of bytes; want of memory says nothing of them.
abbrev pub IsImageFaultOf : List ℕ → ImageFault → Type 0
IsImageFaultOf bytes Short = (length bytes < BLOCK_SIZE) ⊎ (length bytes < length_told bytes)
IsImageFaultOf bytes Long = length_told bytes < length bytes
IsImageFaultOf bytes Mark = number_at bytes 0 ≢ 0x4c46_5349
IsImageFaultOf bytes Form = number_at bytes 4 ≢ 1
IsImageFaultOf bytes (Segments number) = (number_at bytes 8 ≡ number) × IsOutside least_segments most_segments number
IsImageFaultOf bytes (Inodes number) = (number_at bytes 12 ≡ number) × IsOutside least_inodes most_inodes number
IsImageFaultOf bytes (Active segment) = (number_at bytes 16 ≡ segment) × (number_at bytes 8 ≤ segment)
IsImageFaultOf bytes (Used blocks) = (number_at bytes 20 ≡ blocks)
    × IsOutside (log_start (number_at bytes 16)) SEGMENT_BLOCKS blocks
IsImageFaultOf bytes (Securelevel number) = (number_at bytes 24 ≡ number) × (3 < number)
IsImageFaultOf bytes Gap = (h : Head) → MayHead h → take BLOCK_SIZE bytes ≡ head_bytes h → ⊥
IsImageFaultOf bytes IfileHead = IsIfileFaultOf (drop (ifile_place bytes) bytes) ifile_fault.Head
IsImageFaultOf bytes (IfileSegment segment) =
    IsIfileFaultOf (drop (ifile_place bytes) bytes) (ifile_fault.Segment segment)
IsImageFaultOf bytes (IfileRow number) = IsIfileFaultOf (drop (ifile_place bytes) bytes) (ifile_fault.Row number)
IsImageFaultOf bytes Apart = IsApart bytes
IsImageFaultOf bytes Label = (l : LogParts) × (level : Level) × IsImageOf bytes l level × (IsLabelled l → ⊥)
IsImageFaultOf bytes (Log fault) = (fault ≢ log_fault.Memory)
    × ((l : LogParts) × (level : Level) × IsImageOf bytes l level × IsLogFaultOf l fault)
IsImageFaultOf bytes Memory = Unit {0}
