-- What the log expects and names behind each change of the memory: `Expects-put`, `Expects-opened`, `Extends-appended`,
-- for `Segments::begin`, `put` and `open_next`. A put writes the address at the fill alone, and an entry rests on
-- earlier blocks of its segment, so all that is older stays and the expectation takes one `after_block`; an opened
-- segment is zeros, which are no summary, so its old names are gone. Both fall if a name could rest on a later block,
-- or if `summary_entries` made something of `zero_block`.
use Rattle.std.proofs.Common.{◌≡◌, ◌≢◌, ℕ, ◌+◌, ◌-◌, ◌*◌, ◌/◌, ◌<◌, ◌≤◌, ◌⊎◌, inl, inr, List, [], ◌∷◌, Some}
use Rattle.std.proofs.Common.{Bool, Option, None, is_some, length, get_or, replicate, refl, ap, ◌∙◌}
use Rattle.std.proofs.Common.{⊎_elim, arith}
use Rattle.std.specs.List.{slice_get}
use Rattle.std.proofs.lemmas.Bool.{cases_lt, le-ltb, lt-ltb}
use Rattle.std.proofs.lemmas.List.{get_or-append_right, get_or-replicate, length-replicate}
use Rattle.lfs_types.specs.Blocks.{zero_block}
use Rattle.lfs_segments.specs.declared.entry.SummaryEntry.{SummaryEntry}
use Rattle.lfs_segments.specs.Log.{Expects, Extends, IsOlder, after_block, entry_at, expected, first_of, log_block}
use Rattle.lfs_segments.specs.Memory.{IsLaidOut, IsNextSerial, SegmentMemory, appended, block_at, fresh_with, has_serials}
use Rattle.lfs_segments.specs.Memory.{label, log_start, next_address, next_serial, opened, raised, room_of, seen_with}
use Rattle.lfs_segments.specs.Memory.{serial_after, written}
use Rattle.lfs_segments.specs.Serial.{entries_in}
use Rattle.lfs_segments.proofs.LogLemmas.{entry_at-in, entry_at-pending, entry_at-same, expected-more, expected-same}
use Rattle.lfs_segments.proofs.LogLemmas.{next_entry}
use Rattle.lfs_segments.proofs.MemoryLemmas.{get_or-written_after, get_or-written_before, get_or-written_inside}
use Rattle.lfs_segments.proofs.MemoryLemmas.{length-written, log_start-le}

-- blocks that are appended
module _ (m : SegmentMemory) (others : List (List ℕ)) (laid : IsLaidOut m) (fits : length others ≤ room_of m) where
  room : next_address m + length others ≤ length m.blocks
  room = let whole = laid.whole in let active = laid.active in let within = laid.within in omega arith

  pub block_at-appended_older : (a : ℕ) → IsOlder m a → block_at (appended m others) a ≡ block_at m a
  block_at-appended_older a older = ⊎_elim
      (λ (before : a < next_address m). get_or-written_before m.blocks (next_address m) others room a [] before)
      (λ (beyond : m.active * 64 + 64 ≤ a). let within = laid.within in
      get_or-written_after m.blocks (next_address m) others room a [] (omega arith))
      older

  pub block_at-appended_behind : (a : ℕ) → next_address m + length others ≤ a → block_at (appended m others) a
      ≡ block_at m a
  block_at-appended_behind a behind = get_or-written_after m.blocks (next_address m) others room a [] behind

  pub block_at-appended_new : (k : ℕ) → k < length others → block_at (appended m others) (next_address m + k)
      ≡ get_or others k []
  block_at-appended_new k inside = get_or-written_inside m.blocks (next_address m) others room k [] inside

  pub entry_at-appended_older : (a : ℕ) → IsOlder m a → entry_at (appended m others) a ≡ entry_at m a
  entry_at-appended_older a older = entry_at-same m (appended m others) a refl
      (λ b from below. block_at-appended_older b (⊎_elim
      (λ (before : a < next_address m). inl (omega arith))
      (λ (beyond : m.active * 64 + 64 ≤ a). inr (omega arith))
      older))

  pub Extends-appended : Extends m (appended m others)
  Extends-appended = record {
    segments = refl;
    active = refl;
    fill = omega arith;
    serials = refl;
    blocks = block_at-appended_older;
    entries = entry_at-appended_older;
  }

-- one block of the log
module _ (m : SegmentMemory) (block : List ℕ) (laid : IsLaidOut m) (some : 1 ≤ room_of m) where
  pub block_at-put : block_at (appended m (block ∷ [])) (next_address m) ≡ block
  block_at-put =
      let same : next_address m ≡ next_address m + 0 = omega arith in
      ap (block_at (appended m (block ∷ []))) same ∙ block_at-appended_new m (block ∷ []) laid some 0 (omega arith)

  pub Expects-put : (before after : List SummaryEntry) → Expects m before → after_block (has_serials m) before block
      ≡ Some after → length after < room_of m → Expects (appended m (block ∷ [])) after
  Expects-put before after e step fits =
      let new = appended m (block ∷ []) in
      let begun = laid.begun in let within = laid.within in
      let first : ℕ = first_of m.active in
      let used : ℕ = next_address m - first in
      let more : next_address new - first ≡ used + 1 = omega arith in
      let at : first + used ≡ next_address m = omega arith in
      let kind = has_serials m in
      let same : expected kind (log_block new m.active) used ≡ Some before =
      expected-same kind (log_block new m.active) (log_block m m.active) used
      (λ k below. block_at-appended_older m (block ∷ []) laid some (first + k) (inl (omega arith))) ∙ e.pending in
      record {
        pending = ap (expected kind (log_block new m.active)) more
            ∙ expected-more kind (log_block new m.active) used before same
            ∙ ap (after_block kind before) (ap (block_at new) at ∙ block_at-put)
            ∙ step;
        fit = omega arith;
        zeros = λ a from below. block_at-appended_behind m (block ∷ []) laid some a (omega arith)
            ∙ e.zeros a (omega arith) below;
      }

  -- the place of the block is named as it was expected
  pub entry_at-put : (before : List SummaryEntry) → Expects m before
      → entry_at (appended m (block ∷ [])) (next_address m) ≡ next_entry (Some before)
  entry_at-put before e =
      let new = appended m (block ∷ []) in
      entry_at-same m new (next_address m) refl (λ a from below. block_at-appended_older m (block ∷ []) laid some a
      (inl below))
      ∙ entry_at-in m m.active (next_address m) (omega arith)
      ∙ ap next_entry e.pending

-- a serial that is used up leaves another
pub kept_kind : (serial : Option ℕ) → is_some (next_serial serial) ≡ is_some serial
kept_kind None = refl
kept_kind (Some serial) = refl

-- which is none the less one
more_told : (serial : ℕ) → IsNextSerial (Some serial) → IsNextSerial (Some (serial_after serial))
more_told serial told = ⊎_elim
    (λ (low : serial < 4294967295). rw (lt-ltb serial 4294967295 low) (omega arith, omega arith))
    (λ (last : 4294967295 ≤ serial). rw (le-ltb serial 4294967295 last) told)
    (cases_lt serial 4294967295)

pub next_told : (serial : Option ℕ) → IsNextSerial serial → IsNextSerial (next_serial serial)
next_told None told = tt
next_told (Some serial) told = more_told serial told

-- and what the log names and expects stays
pub entry_at-raised : (m : SegmentMemory) (a : ℕ) → entry_at (raised m) a ≡ entry_at m a
entry_at-raised m a = entry_at-same m (raised m) a (kept_kind m.serial) (λ b from below. refl)

pub Expects-raised : (m : SegmentMemory) (entries : List SummaryEntry) → Expects m entries → Expects (raised m) entries
Expects-raised m entries e = record {
  pending = ap (λ (s : Bool). expected s (log_block m m.active) (next_address m - first_of m.active)) (kept_kind m.serial)
      ∙ e.pending;
  fit = e.fit;
  zeros = e.zeros;
}

-- the summary of a partial segment
module _ (m : SegmentMemory) (block : List ℕ) (entries : List SummaryEntry) (laid : IsLaidOut m) (ready : Expects m [])
    (fits : length entries < room_of m) (summary : entries_in (has_serials m) block ≡ Some entries) where
  pub Expects-begun : Expects (raised (appended m (block ∷ []))) entries
  Expects-begun = Expects-raised (appended m (block ∷ [])) entries
      (Expects-put m block laid (omega arith) [] entries ready summary fits)

  pub entry_at-begun : IsLaidOut (raised (appended m (block ∷ []))) → (k : ℕ) → k < length entries
      → entry_at (raised (appended m (block ∷ []))) (next_address m + 1 + k) ≡ slice_get entries k
  entry_at-begun laid_new k below =
      let new = raised (appended m (block ∷ [])) in
      let same : next_address m + 1 + k ≡ next_address new + k = omega arith in
      ap (entry_at new) same ∙ entry_at-pending new entries k laid_new Expects-begun below

  pub entry_at-begun_first : entry_at (raised (appended m (block ∷ []))) (next_address m) ≡ None
  entry_at-begun_first = entry_at-raised (appended m (block ∷ [])) (next_address m)
      ∙ entry_at-put m block laid (omega arith) [] ready

  pub Extends-begun : Extends m (raised (appended m (block ∷ [])))
  Extends-begun =
      let e = Extends-appended m (block ∷ []) laid (omega arith) in
      record {
        segments = refl;
        active = refl;
        fill = e.fill;
        serials = kept_kind m.serial;
        blocks = e.blocks;
        entries = λ a older. entry_at-raised (appended m (block ∷ [])) a ∙ e.entries a older;
      }

-- a new volume is as large as it is to be
pub fresh_is : (serial : Option ℕ) (segments inodes : ℕ) → 1 ≤ segments
    → seen_with serial (label segments inodes ∷ replicate (segments * 64 - 1) zero_block) 0 1
    ≡ fresh_with serial segments inodes
fresh_is serial segments inodes some =
    let blocks = label segments inodes ∷ replicate (segments * 64 - 1) zero_block in
    let rest = length-replicate (segments * 64 - 1) zero_block in
    let count : length blocks / 64 ≡ segments = omega (arith, rest) in
    ap (λ (n : ℕ). let m : SegmentMemory = record {
      segments = n;
      active = 0;
      fill = 1;
      serial = serial;
      blocks = blocks;
    } in m) count

-- behind the label it has zeros
pub block_at-fresh : (serial : Option ℕ) (segments inodes a : ℕ) → 1 ≤ a → a < segments * 64
    → block_at (fresh_with serial segments inodes) a ≡ zero_block
block_at-fresh serial segments inodes a from below =
    get_or-append_right (label segments inodes ∷ []) (replicate (segments * 64 - 1) zero_block) 1 a [] refl from
    ∙ get_or-replicate (segments * 64 - 1) (a - 1) zero_block [] (omega arith)

-- a new volume expects a summary in segment 0
pub Expects-fresh : (serial : Option ℕ) (segments inodes : ℕ) → 1 ≤ segments
    → Expects (fresh_with serial segments inodes) []
unfolding expected
Expects-fresh serial segments inodes some = record {
  pending = refl;
  fit = omega arith;
  zeros = λ a from below. block_at-fresh serial segments inodes a (omega arith) (omega arith);
}

-- a segment that is opened
module _ (m : SegmentMemory) (segment : ℕ) (laid : IsLaidOut m) (inside : segment < m.segments) where
  count : length (replicate (64 - log_start segment) zero_block) ≡ 64 - log_start segment
  count = length-replicate (64 - log_start segment) zero_block

  reaches : first_of segment + length (replicate (64 - log_start segment) zero_block) ≡ segment * 64 + 64
  reaches = let low = log_start-le segment in omega (arith, count)

  opens : first_of segment + length (replicate (64 - log_start segment) zero_block) ≤ length m.blocks
  opens = let whole = laid.whole in omega (arith, reaches)

  pub block_at-opened_other : (a : ℕ) → (a < first_of segment) ⊎ (segment * 64 + 64 ≤ a) → block_at (opened m segment) a
      ≡ block_at m a
  block_at-opened_other a apart = ⊎_elim
      (λ (before : a < first_of segment). get_or-written_before m.blocks (first_of segment)
      (replicate (64 - log_start segment) zero_block) opens a [] before)
      (λ (beyond : segment * 64 + 64 ≤ a). get_or-written_after m.blocks (first_of segment)
      (replicate (64 - log_start segment) zero_block) opens a [] (omega (arith, reaches)))
      apart

  pub block_at-opened : (a : ℕ) → first_of segment ≤ a → a < segment * 64 + 64 → block_at (opened m segment) a
      ≡ zero_block
  block_at-opened a from below =
      let k : ℕ = a - first_of segment in
      let at : a ≡ first_of segment + k = omega arith in
      let within : k < 64 - log_start segment = omega arith in
      ap (block_at (opened m segment)) at
      ∙ get_or-written_inside m.blocks (first_of segment) (replicate (64 - log_start segment) zero_block) opens k []
      (omega (arith, count))
      ∙ get_or-replicate (64 - log_start segment) k zero_block [] within

  -- the other segments' blocks and entries stay
  pub block_at-opened_apart : (a : ℕ) → a / 64 ≢ segment → block_at (opened m segment) a ≡ block_at m a
  block_at-opened_apart a other = block_at-opened_other a (⊎_elim
      (λ (before : a / 64 < segment). inl (omega arith))
      (λ (beyond : segment ≤ a / 64). inr (omega arith))
      (cases_lt (a / 64) segment))

  pub entry_at-opened_other : (a : ℕ) → a / 64 ≢ segment → entry_at (opened m segment) a ≡ entry_at m a
  entry_at-opened_other a other = entry_at-same m (opened m segment) a refl (λ b from below. block_at-opened_other b (⊎_elim
      (λ (before : a / 64 < segment). inl (omega arith))
      (λ (beyond : segment ≤ a / 64). inr (omega arith))
      (cases_lt (a / 64) segment)))

  -- its log expects a summary
  pub Expects-opened : Expects (opened m segment) []
  unfolding expected
  Expects-opened =
      let none : first_of segment - first_of segment ≡ 0 = omega arith in
      record {
        pending = ap (expected (has_serials m) (log_block (opened m segment) segment)) none;
        fit = omega arith;
        zeros = λ a from below. block_at-opened a from below;
      }

-- the memory with a segment opened is as large as it was
pub opened_is : (serial : Option ℕ) (blocks : List (List ℕ)) (active fill segment : ℕ)
    → IsLaidOut (seen_with serial blocks active fill) → segment < length blocks / 64
    → seen_with serial (written blocks (first_of segment) (replicate (64 - log_start segment) zero_block)) segment
    (log_start segment) ≡ opened (seen_with serial blocks active fill) segment
opened_is serial blocks active fill segment laid inside =
    let whole = laid.whole in
    let reach = reaches (seen_with serial blocks active fill) segment laid inside in
    let new = written blocks (first_of segment) (replicate (64 - log_start segment) zero_block) in
    let long = length-written blocks (first_of segment) (replicate (64 - log_start segment) zero_block)
    (omega (arith, reach)) in
    ap (λ (n : ℕ). let m : SegmentMemory = record {
      segments = n / 64;
      active = segment;
      fill = log_start segment;
      serial = serial;
      blocks = new;
    } in m) long
