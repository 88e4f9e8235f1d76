-- What the log names at a place stays as it is written on and as a segment is opened: `Writes-extended` for `begin` and
-- `put`, `Opens-opened` for `open`; `named_at-entry` and its kin tell it from an entry, for FoundLemmas, `lfs_segwrite`
-- and `lfs_fsck`. The owner of a place rests on the summary's entry for its address and, for a record, on the block
-- there (`named_at-same`), and both stay at each address before the log's end or in another segment. An opened segment
-- must have been clean, since its entries go; another thing that `owner_in` looked at would have to be kept by Extends
-- too.
use Rattle.std.proofs.Common.{◌≡◌, ◌≢◌, ℕ, ◌+◌, ◌*◌, ◌/◌, ◌%◌, ◌<◌, ◌≤◌, inl, inr, List, Some}
use Rattle.std.proofs.Common.{option_and_then, length, refl, ap, ◌∙◌, ⊎_elim, arith}
use Rattle.std.proofs.lemmas.Bool.{cases_eq, cases_lt}
use Rattle.lfs_segments.specs.Log.{Extends, IsOlder, entry_at}
use Rattle.lfs_segments.specs.Memory.{IsLaidOut, SegmentMemory, block_at, next_address, opened, room_of}
use Rattle.lfs_segments.proofs.WritingLemmas.{block_at-opened_apart, entry_at-opened_other}
use Rattle.lfs_bmap.specs.Counting.{place_of, seg_of}
use Rattle.lfs_bmap.specs.Log.{Opens, Writes}
use Rattle.lfs_bmap.proofs.OwnerLemmas.{owner_at-block, owner_at-kept, owner_at-record}
use Rattle.lfs_bmap.specs.Blocks.{code_of, logical_of}
use Rattle.lfs_bmap.specs.Owners.{owner_at, owner_in}
use Rattle.lfs_bmap.specs.declared.blocks.FileBlock.{FileBlock}
use Rattle.lfs_segments.specs.declared.entry.SummaryEntry.{SummaryEntry}
use Rattle.lfs_segments.specs.declared.entry.LogicalBlock.TheVariants.{Inodes}
use Rattle.lfs_log.specs.Names.{named_at, record_at, record_in}
use Rattle.lfs_ifile.specs.declared.segment.SegState.TheVariants.{Clean}
use Rattle.lfs_ifile.specs.Tables.{Tables, row_of}
use Rattle.lfs_segments.proofs.MemoryLemmas.{log_start-le}
use Rattle.lfs_log.specs.Parts.{IsParts, LogParts, live_of, log_state, opened_parts, state_of}
use Rattle.lfs_log.proofs.PartsLemmas.{opened_active, opened_dirty, opened_other, opened_some}

-- The owner of a place rests on the entry and the block of its address.
pub named_at-same : (old new : SegmentMemory) (place : ℕ) → entry_at new (place / 4) ≡ entry_at old (place / 4)
    → block_at new (place / 4) ≡ block_at old (place / 4)
    → named_at new place ≡ named_at old place
unfolding named_at
named_at-same old new place entry block =
    owner_at-kept (entry_at old) (entry_at new) (record_at old) (record_at new) place entry
    (ap (λ b. record_in b (place % 4)) block)

-- the address of a place that was written lies before the log's end, or in another segment
pub written_older : (m : SegmentMemory) (place : ℕ) → IsLaidOut m
    → (seg_of place ≡ m.active → place < 4 * next_address m) → IsOlder m (place / 4)
written_older m place laid written =
    elim (cases_eq (seg_of place) m.active) [
      | inl e ↦ let below = written e in inl (omega arith)
      | inr ne ↦ ⊎_elim
          (λ (before : place / 4 < next_address m). inl before)
          (λ (from : next_address m ≤ place / 4). let begun = laid.within in inr (omega arith))
          (cases_lt (place / 4) (next_address m))
    ]

-- What is written leaves the owners of older places.
pub named_at-extended : (old new : SegmentMemory) (place : ℕ) → Extends old new → IsOlder old (place / 4)
    → named_at new place ≡ named_at old place
named_at-extended old new place h older =
    named_at-same old new place (h.entries (place / 4) older) (h.blocks (place / 4) older)

-- An opened segment leaves those of the other segments' places.
pub named_at-opened : (m : SegmentMemory) (segment place : ℕ) → IsLaidOut m → segment < m.segments
    → seg_of place ≢ segment → named_at (opened m segment) place ≡ named_at m place
named_at-opened m segment place laid inside apart =
    let other : place / 4 / 64 ≢ segment = λ e. apart (omega arith) in
    named_at-same m (opened m segment) place (entry_at-opened_other m segment laid inside (place / 4) other)
    (block_at-opened_apart m segment laid inside (place / 4) other)

-- The steps of the log, as its keys see them.
pub Opens-opened : (p : LogParts) (segment : ℕ) (at : ℕ → ℕ → ℕ) → IsParts p → segment < p.memory.segments
    → state_of p.tables segment ≡ Clean → Opens (log_state p at) (log_state (opened_parts p segment) at) segment
Opens-opened p segment at h inside clean = record {
  keys = record { numbers = refl; segments = refl; places = λ n c low below. refl; versions = λ n low. refl };
  inside = inside;
  was_clean = clean;
  active = refl;
  from = omega arith;
  to = let begun = log_start-le segment in omega arith;
  is_active = opened_active p segment h inside clean;
  is_dirty = opened_dirty p segment h inside clean;
  states = λ s below apart other. opened_other p segment h inside clean s apart other;
  clean = let some = opened_some p segment h inside clean in omega arith;
  live = λ s below. refl;
  owners = λ place apart. named_at-opened p.memory segment place h.laid_out inside apart;
}

pub Writes-extended : (p q : LogParts) (at : ℕ → ℕ → ℕ) → IsParts p → 1 ≤ room_of p.memory → Extends p.memory q.memory
    → q.tables ≡ p.tables → q.clean ≡ p.clean
    → next_address q.memory ≡ next_address p.memory + 1 → Writes (log_state p at) (log_state q at) 1
Writes-extended p q at h room extends tables clean next = record {
  keys = record {
    numbers = ap (λ (t : Tables). length t.rows) tables;
    segments = extends.segments;
    places = λ n c low below. refl;
    versions = λ n low. ap (λ (t : Tables). (row_of t n).version) tables;
  };
  used = record { states = λ s below. ap (λ (t : Tables). state_of t s) tables; clean = clean };
  live = λ s below. ap (λ (t : Tables). live_of t s) tables;
  active = extends.active;
  next = next;
  room = omega arith;
  owners = λ place written. named_at-extended p.memory q.memory place extends
      (written_older p.memory place h.laid_out written);
}

-- Where the log has an entry for an address, it names the units of the block there as the entry says.
pub named_at-entry : (m : SegmentMemory) (address slot : ℕ) (e : SummaryEntry) (block : List ℕ) → slot < 4
    → entry_at m address ≡ Some e → block_at m address ≡ block
    → named_at m (4 * address + slot) ≡ owner_in e.block e.number e.version slot (record_in block slot)
unfolding named_at owner_at
named_at-entry m address slot e block low named at =
    let address_is : (4 * address + slot) / 4 ≡ address = omega arith in
    let unit : (4 * address + slot) % 4 ≡ slot = omega arith in
    ap (λ a. option_and_then (λ (x : SummaryEntry). owner_in x.block x.number x.version ((4 * address + slot) % 4)
    (record_at m a ((4 * address + slot) % 4))) (entry_at m a)) address_is
    ∙ ap (λ s. option_and_then (λ (x : SummaryEntry). owner_in x.block x.number x.version s (record_at m address s))
    (entry_at m address)) unit
    ∙ ap (option_and_then (λ (x : SummaryEntry). owner_in x.block x.number x.version slot (record_at m address slot)))
    named
    ∙ ap (λ b. owner_in e.block e.number e.version slot (record_in b slot)) at

-- a block of a file has its place at four times its address
pub named_at-block : (m : SegmentMemory) (address number version : ℕ) (block : FileBlock) → code_of block ≢ 0
    → entry_at m address ≡ Some (record { number = number; version = version; block = logical_of block })
    → named_at m (place_of address) ≡ Some (record { number = number; version = version; code = code_of block })
unfolding named_at
named_at-block m address number version block other named =
    owner_at-block (entry_at m) (record_at m) address number version block other named

-- a record has its place at the slot of its inode block
pub named_at-record : (m : SegmentMemory) (address slot number version : ℕ) (e : SummaryEntry) → slot < 4
    → entry_at m address ≡ Some e → e.block ≡ Inodes → record_in (block_at m address) slot ≡ Some (number, version)
    → named_at m (4 * address + slot) ≡ Some (record { number = number; version = version; code = 0 })
unfolding named_at
named_at-record m address slot number version e low named inodes found =
    owner_at-record (entry_at m) (record_at m) address slot number version e low named inodes found
