-- Which numbers recovery finds by their names, and which are in use in the store.
use Rattle.std.specs.Prelude.{◌≡◌, ℕ, ◌<◌, ◌↔◌, true, List, Option, None, Some, length, slice_index_or}
use Rattle.lfs_types.specs.Ranges.{most_inodes}
use Rattle.lfs_types.specs.Tree.{World}
use Rattle.lfs_segments.specs.Memory.{SegmentMemory, block_at, label}
use Rattle.lfs_ifile.specs.Tables.{row_of}
use Rattle.lfs_recovery.specs.declared.places.RecordPlace.{RecordPlace}
use Rattle.lfs_recovery.specs.Newest.{IsNewest}
use Rattle.lfs_found.specs.Written.{IsRecoverable}
use Rattle.lfs_parts.specs.declared.parts.Parts.{Parts}
use Rattle.lfs_parts.specs.Files.{content_of}
use Rattle.lfs_parts.specs.Store.{IsFlushed, IsStore}
use Rattle.lfs_segwrite.specs.Ordered.{IsFound, IsOrdered}
use Rattle.lfs_model.specs.World.{IsTree}
use Rattle.lfs_calls.specs.Content.{Shows}
use Rattle.lfs_reach.specs.Reach.{Reaches}

-- A store of which all lies in the blocks of its log: nothing waits, recovery finds all that was begun, and the inode map
-- has each number's latest record. The last serial hasn't come, and block 0 is the volume's label, as it is laid out.
pub record IsDurable (p : Parts) : Type 0 where
  pub store : IsStore p
  pub flushed : IsFlushed p
  pub recoverable : IsRecoverable p.log.memory
  pub ordered : IsOrdered p.log
  pub next : ℕ
  pub serial : p.log.memory.serial ≡ Some next
  pub bound : next < 4294967295
  pub labelled : block_at p.log.memory 0 ≡ label p.log.memory.segments (length p.log.tables.rows)

-- Of each number in use recovery finds the record that the store has.
abbrev pub FindsRecordOfEach : Type 0
FindsRecordOfEach = (p : Parts) (number : ℕ) → IsDurable p → (row_of p.log.tables number).used ≡ true → IsFound p number

-- a table has the newest record that recovery finds of each number
pub record AreNewest (m : SegmentMemory) (places : List (Option RecordPlace)) : Type 0 where
  pub each : (n : ℕ) → n < most_inodes → IsNewest m n (slice_index_or places n None)

-- Where the store shows a tree, names lead to a number, by the newest records and the blocks alone, exactly where it is in
-- use.
abbrev pub FindsNames : Type 0
FindsNames = (p : Parts) (w : World) (places : List (Option RecordPlace)) (number : ℕ) → IsDurable p
    → Shows (content_of p) w → IsTree w.rows → AreNewest p.log.memory places
    → Reaches p.log.memory places number ↔ ((row_of p.log.tables number).used ≡ true)
