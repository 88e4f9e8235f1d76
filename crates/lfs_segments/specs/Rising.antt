-- The summaries of a memory whose summaries have serials, and the order that their serials tell.
use Rattle.std.specs.Prelude.{◌≡◌, ◌≢◌, ℕ, ◌*◌, ◌/◌, ◌%◌, ◌<◌, ◌≤◌, [], Some}
use Rattle.lfs_types.specs.declared.limits.TheConstants.{SEGMENT_BLOCKS}
use Rattle.lfs_segments.specs.Log.{expected_at, first_of}
use Rattle.lfs_segments.specs.Memory.{SegmentMemory, block_at}
use Rattle.lfs_segments.specs.Serial.{Told, told_in}

-- A summary of a log: its segment's log expects one at this address, and the block there is one, which tells this.
pub record IsSummaryAt (m : SegmentMemory) (address : ℕ) (t : Told) : Type 0 where
  pub inside : address < m.segments * SEGMENT_BLOCKS
  pub behind : first_of (address / SEGMENT_BLOCKS) ≤ address
  pub expects : expected_at m (address / SEGMENT_BLOCKS) address ≡ Some []
  pub told : told_in (block_at m address) ≡ Some t

-- Serials tell the order in which partial segments were written: they rise along each log, those of the active segment
-- are above those of all others, no two summaries have the same one, and the next summary's is above them all. Each
-- summary says where it stands.
pub record IsRisingTo (m : SegmentMemory) (next : ℕ) : Type 0 where
  pub below : (a : ℕ) (t : Told) → IsSummaryAt m a t → t.serial < next
  pub rises : (a b : ℕ) (t u : Told) → IsSummaryAt m a t → IsSummaryAt m b u
      → a / SEGMENT_BLOCKS ≡ b / SEGMENT_BLOCKS → a < b → t.serial < u.serial
  pub active : (a b : ℕ) (t u : Told) → IsSummaryAt m a t → IsSummaryAt m b u
      → a / SEGMENT_BLOCKS ≢ m.active → b / SEGMENT_BLOCKS ≡ m.active → t.serial < u.serial
  pub apart : (a b : ℕ) (t u : Told) → IsSummaryAt m a t → IsSummaryAt m b u
      → t.serial ≡ u.serial → a ≡ b
  pub segment : (a : ℕ) (t : Told) → IsSummaryAt m a t → t.segment ≡ a / SEGMENT_BLOCKS
  pub offset : (a : ℕ) (t : Told) → IsSummaryAt m a t → t.offset ≡ a % SEGMENT_BLOCKS

-- So it is where summaries have serials, until the last serial comes, 2 ^ 32 - 1, which stays.
pub record IsRising (m : SegmentMemory) : Type 0 where
  pub to : (next : ℕ) → m.serial ≡ Some next → next < 4294967295 → IsRisingTo m next
