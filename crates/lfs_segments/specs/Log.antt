-- The log of a segment, read forward block by block: which blocks it names, and what it expects of the next one.
use Rattle.std.specs.Prelude.{◌≡◌, ℕ, zero, suc, ◌+◌, ◌-◌, ◌*◌, ◌/◌, ◌<◌, ◌≤◌, ◌⊎◌, List, [], ◌∷◌, ◌++◌, Option, Some}
use Rattle.std.specs.Prelude.{None, length, option_and_then, Bool}
use Rattle.std.specs.List.{slice_get}
use Rattle.lfs_segments.specs.declared.entry.SummaryEntry.{SummaryEntry}
use Rattle.lfs_types.specs.declared.limits.TheConstants.{SEGMENT_BLOCKS}
use Rattle.lfs_types.specs.Blocks.{zero_block}
use Rattle.lfs_segments.specs.Memory.{SegmentMemory, block_at, has_serials, log_start, next_address, room_of}
use Rattle.lfs_segments.specs.Serial.{entries_in}

-- What the log expects behind a block, if it goes on: the blocks of these entries, and then a summary, with a serial or
-- without one.
abbrev pub after_block : Bool → List SummaryEntry → List ℕ → Option (List SummaryEntry)
after_block serials [] block = entries_in serials block
after_block serials (_ ∷ expected) block = Some expected

-- What it expects behind its first n blocks: at first a summary.
unfoldable pub expected : Bool → (ℕ → List ℕ) → ℕ → Option (List SummaryEntry)
expected serials blocks zero = Some []
expected serials blocks (suc n) =
    option_and_then (λ entries. after_block serials entries (blocks n)) (expected serials blocks n)

-- the address at which the log of a segment begins
abbrev pub first_of : ℕ → ℕ
first_of segment = segment * SEGMENT_BLOCKS + log_start segment

-- the blocks of the log of a segment
abbrev pub log_block : SegmentMemory → ℕ → ℕ → List ℕ
log_block m segment k = block_at m (first_of segment + k)

-- what the log of a segment expects at an address of it
abbrev pub expected_at : SegmentMemory → ℕ → ℕ → Option (List SummaryEntry)
expected_at m segment address = expected (has_serials m) (log_block m segment)
    (address - first_of segment)

-- what the log of its segment names at an address: none at a summary, behind the log's end, and at the label
unfoldable pub entry_at : SegmentMemory → ℕ → Option SummaryEntry
entry_at m address = option_and_then (λ entries. slice_get entries 0)
    (expected_at m (address / SEGMENT_BLOCKS) address)

-- an address with what is named there, as a list of one, or of none
abbrev pub named_one : ℕ → Option SummaryEntry → List (ℕ × SummaryEntry)
named_one address None = []
named_one address (Some entry) = (address, entry) ∷ []

-- the addresses from one on, so many of them, that have an entry, each with it
unfoldable pub names_from : SegmentMemory → ℕ → ℕ → List (ℕ × SummaryEntry)
names_from m first zero = []
names_from m first (suc n) = names_from m first n ++ named_one (first + n) (entry_at m (first + n))

-- The active segment's log goes on where the next block is put, with the blocks of these entries and then a summary.
-- They fit, and zeros stand there.
pub record Expects (m : SegmentMemory) (entries : List SummaryEntry) : Type 0 where
  pub pending : expected_at m m.active (next_address m) ≡ Some entries
  pub fit : length entries ≤ room_of m
  pub zeros : (a : ℕ) → next_address m ≤ a → a < m.active * SEGMENT_BLOCKS + SEGMENT_BLOCKS
      → block_at m a ≡ zero_block

-- an address before the end of the active segment's log, or of another segment
abbrev pub IsOlder : SegmentMemory → ℕ → Type 0
IsOlder m address = (address < next_address m)
    ⊎ (m.active * SEGMENT_BLOCKS + SEGMENT_BLOCKS ≤ address)

-- The memory after more was written behind the active segment's log: what was there stays, with its entries.
pub record Extends (old new : SegmentMemory) : Type 0 where
  pub segments : new.segments ≡ old.segments
  pub active : new.active ≡ old.active
  pub fill : old.fill ≤ new.fill
  pub serials : has_serials new ≡ has_serials old
  pub blocks : (a : ℕ) → IsOlder old a → block_at new a ≡ block_at old a
  pub entries : (a : ℕ) → IsOlder old a → entry_at new a ≡ entry_at old a
