-- The inode map agrees with what recovery would find.
use Rattle.std.specs.Prelude.{◌≡◌, ◌≢◌, ℕ, ◌<◌, Some, None, true, length}
use Rattle.lfs_ifile.specs.Tables.{row_of}
use Rattle.lfs_inodes.specs.Reading.{fields_in}
use Rattle.lfs_inodes.specs.Slots.{slot_of}
use Rattle.lfs_segments.specs.Memory.{block_at}
use Rattle.lfs_recovery.specs.declared.places.RecordPlace.{RecordPlace}
use Rattle.lfs_recovery.specs.Newest.{IsNewest, slot_place}
use Rattle.lfs_found.specs.Found.{IsLatest}
use Rattle.lfs_found.specs.Written.{IsRecoverable}
use Rattle.lfs_log.specs.Parts.{LogParts, record_place}
use Rattle.lfs_parts.specs.declared.parts.Parts.{Parts}
use Rattle.lfs_parts.specs.Store.{IsStore}
use Rattle.lfs_parts.specs.View.{record_of, version_of, waiting_in}

-- the latest record of a number stands where the inode map has it, and is of the version that the number has
pub record HasLatest (p : LogParts) (number : ℕ) : Type 0 where
  pub record_there : RecordPlace
  pub latest : IsLatest p.memory number record_there
  pub here : slot_place record_there ≡ record_place p.tables number
  pub version : record_there.version ≡ (row_of p.tables number).version

-- Where summaries have serials, the latest record of each number that has a place in the log stands there, until the last
-- serial comes.
pub record IsOrdered (p : LogParts) : Type 0 where
  pub each : (next number : ℕ) → p.memory.serial ≡ Some next → next < 4294967295 → number < length p.tables.rows
      → record_place p.tables number ≢ 0 → HasLatest p number

-- the newest record that recovery finds of a number is the one that the store has of it
pub record IsFound (p : Parts) (number : ℕ) : Type 0 where
  pub newest : RecordPlace
  pub found : IsNewest p.log.memory number (Some newest)
  pub version : newest.version ≡ version_of p number
  pub same : fields_in (slot_of (block_at p.log.memory newest.address) newest.slot) ≡ record_of p number

-- So it is, till the last serial comes, of each number in use that has a place in the log and whose record doesn't wait.
abbrev pub FindsInUse : Type 0
FindsInUse = (p : Parts) (next number : ℕ) → IsStore p → IsRecoverable p.log.memory → IsOrdered p.log
    → p.log.memory.serial ≡ Some next → next < 4294967295 → (row_of p.log.tables number).used ≡ true
    → record_place p.log.tables number ≢ 0 → waiting_in p.waiting number ≡ None → IsFound p number
