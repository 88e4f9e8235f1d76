-- A block put at the log's end leaves each file as it was: `appends`, for `append_block` and `append_waiting`, and
-- `record_put` and `unread_next`, for AppendedLemmas too. Each key lies before the log's end or in another segment
-- (IsLog), so no file has a block at the address that is written next, and each record stands where the log was written
-- before (`record_older`). Address 0 means none, and the log never goes on there (`next_some`) as the first segment
-- begins with the label; a log that could write over its own blocks would break `unread_next`.
use Rattle.std.proofs.Common.{◌≡◌, ◌≢◌, ℕ, zero, suc, ◌+◌, ◌*◌, ◌/◌, ◌<◌, ◌≤◌, List, [], length, Some, refl, sym, ap}
use Rattle.std.proofs.Common.{◌∙◌}
use Rattle.std.proofs.Common.{subst, inl, inr, arith}
use Rattle.std.proofs.lemmas.Bool.{cases_Bool, cases_eq, cases_lt, cond-true}
use Rattle.lfs_ifile.specs.declared.inode.InodePlace.{InodePlace}
use Rattle.lfs_ifile.specs.Inode.{fresh_row}
use Rattle.lfs_ifile.specs.Tables.{Tables, place_of, row_of}
use Rattle.lfs_inodes.specs.Reading.{fields_in}
use Rattle.lfs_inodes.specs.Slots.{slot_of}
use Rattle.lfs_segments.specs.declared.entry.SummaryEntry.{SummaryEntry}
use Rattle.lfs_segments.specs.Log.{Expects, Extends, IsOlder}
use Rattle.lfs_segments.specs.Memory.{IsLaidOut, SegmentMemory, block_at, log_start, next_address, room_of}
use Rattle.lfs_segments.specs.Rising.{IsRising}
use Rattle.lfs_log.specs.Parts.{IsParts, LogParts, record_place}
use Rattle.lfs_log.specs.Parts as log
use Rattle.lfs_log.proofs.NameLemmas.{written_older}
use Rattle.lfs_bmap.specs.Log.{IsLog, Writes}
use Rattle.lfs_bmap.specs.Reading.{IsUnread, address}
use Rattle.lfs_bmap.specs.Ways.{code_at, way_of}
use Rattle.lfs_bmap.proofs.ReadingLemmas.{address-root}
use Rattle.lfs_bmap.proofs.WayLemmas.{known_way_of, way_of-zero}
use Rattle.lfs_parts.specs.declared.parts.Parts.{Parts}
use Rattle.lfs_segwrite.specs.Landing.{AppendsBlock, ExpectsSome}
use Rattle.lfs_parts.specs.Keys.{log_state}
use Rattle.lfs_parts.specs.View.{fields_at, record_of, tree_of, waiting_in, waiting_or}
use Rattle.lfs_parts.proofs.FileLemmas.{free_place, record_of-past}
use Rattle.lfs_parts.proofs.KeyLemmas.{place-block, placed_at}
use Rattle.lfs_parts.proofs.ViewLemmas.{record_of-at, record_of-unused}

-- the log never goes on at address 0
first_some : (active fill : ℕ) → log_start active ≤ fill → 0 < active * 64 + fill
first_some zero fill begun = omega arith
first_some (suc n) fill begun = omega arith

pub next_some : (m : SegmentMemory) → IsLaidOut m → 0 < next_address m
next_some m laid = first_some m.active m.fill laid.begun

-- the blocks at other addresses stay
pub blocks_put : (old new : SegmentMemory) (before after : List SummaryEntry) → Extends old new → next_address new
    ≡ next_address old + 1
    → Expects old before → Expects new after → (b : ℕ) → b ≢ next_address old → block_at new b ≡ block_at old b
blocks_put old new before after extends next expects expected b other =
    elim (cases_lt b (next_address old)) [
      | inl low ↦ extends.blocks b (inl low)
      | inr high ↦ elim (cases_lt b (old.active * 64 + 64)) [
        | inl inside ↦
            let active = extends.active in
            expected.zeros b (omega arith) (omega arith) ∙ sym (expects.zeros b high inside)
        | inr past ↦ extends.blocks b (inr past)
      ]
    ]

-- where a record stands, the log was written before
record_older : (p : Parts) (number spare : ℕ) → IsParts p.log → IsLog (log_state p) spare
    → number < length p.log.tables.rows → IsOlder p.log.memory (row_of p.log.tables number).address
record_older p number spare parts log low =
    let row = row_of p.log.tables number in
    elim (cases_eq row.address 0) [
      | inl none ↦ let some = next_some p.log.memory parts.laid_out in inl (omega arith)
      | inr some ↦
          let at = placed_at p.log.tables number some in
          let slot : row.slot < 4 = (parts.formed.each_row number fresh_row low).slot in
          let key = log.keys number 0 (record {
            number_below = low;
            code_below = omega arith;
            somewhere = λ none. some (omega (arith, at, none));
          }) in
          let same : record_place p.log.tables number / 4 ≡ row.address = omega (arith, at, slot) in
          subst (IsOlder p.log.memory) same (written_older p.log.memory
          (record_place p.log.tables number) parts.laid_out key.written)
    ]

-- so each record is as it was
pub record_put : (p q : Parts) (number spare : ℕ) → IsParts p.log → IsLog (log_state p) spare
    → Extends p.log.memory q.log.memory → q.log.tables ≡ p.log.tables
    → waiting_in q.waiting number ≡ waiting_in p.waiting number → record_of q number ≡ record_of p number
record_put p q number spare parts log extends tables waits =
    elim (cases_lt number (length p.log.tables.rows)) [
      | inl low ↦ elim (cases_Bool (row_of p.log.tables number).used) [
        | inl used ↦
            let row = row_of p.log.tables number in
            let place : InodePlace = record { addr = row.address; slot = row.slot; version = row.version } in
            let there : place_of p.log.tables number ≡ Some place = cond-true _ _ _ used in
            let after : place_of q.log.tables number ≡ Some place = ap (λ (t : Tables). place_of t number) tables
            ∙ there in
            record_of-at q number place after ∙ ap (λ w. waiting_or w (fields_at q.log.memory place)) waits
            ∙ ap (λ b. waiting_or (waiting_in p.waiting number) (fields_in (slot_of b row.slot)))
            (extends.blocks row.address (record_older p number spare parts log low))
            ∙ sym (record_of-at p number place there)
        | inr free ↦
            let there = free_place p number free in
            record_of-unused q number (ap (λ (t : Tables). place_of t number) tables ∙ there)
            ∙ sym (record_of-unused p number there)
      ]
      | inr past ↦ record_of-past q number (subst (λ (t : Tables). length t.rows ≤ number) (sym tables) past)
          ∙ sym (record_of-past p number past)
    ]

-- no block of a file has the address at which the log goes on
pub unread_next : (p : Parts) (number spare : ℕ) → IsParts p.log → IsLog (log_state p) spare → 1 ≤ room_of p.log.memory
    → number < length p.log.tables.rows
    → IsUnread (tree_of p number) (next_address p.log.memory)
unread_next p number spare parts log room low = λ way known e.
    let some = next_some p.log.memory parts.laid_out in
    let t = tree_of p number in
    elim (cases_eq (code_at way) 0) [
      | inl none ↦
          let root : way ≡ [] = sym (known_way_of way known) ∙ ap way_of none ∙ way_of-zero in
          let zero_ : address t way ≡ 0 = ap (address t) root ∙ address-root t in
          omega (arith, zero_, e, some)
      | inr block ↦
          let at = place-block p number (code_at way) block ∙ ap (λ w. 4 * address t w) (known_way_of way known)
          ∙ ap (λ a. 4 * a) e in
          let key = log.keys number (code_at way) (record {
            number_below = low;
            code_below = known.coded;
            somewhere = λ none. omega (arith, at, none, some);
          }) in
          let below = key.written (omega (arith, at, room)) in
          omega (arith, at, below)
    ]

-- A block that was put at the log's end, where the log expected one: each file is as it was.
pub appends : (p : Parts) (l : LogParts) (a : ℕ) (block : List ℕ) → IsParts p.log → IsLog (log_state p) 0
    → (e : ExpectsSome p.log.memory) → a ≡ next_address p.log.memory → block_at l.memory a ≡ block
    → l.tables ≡ p.log.tables → Extends p.log.memory l.memory → (IsRising p.log.memory → IsRising l.memory)
    → next_address l.memory ≡ next_address p.log.memory + 1 → Expects l.memory e.rest
    → Writes (log_state p) (log.log_state l (log_state p).at) 1
    → AppendsBlock p (record { log = l; cache = p.cache; waiting = p.waiting }) a block
appends p l a block parts is_log e end written tables extends rising next expects step =
    let q : Parts = record { log = l; cache = p.cache; waiting = p.waiting } in
    let room : 1 ≤ room_of p.log.memory = let fit = e.expects.fit in omega arith in
    record {
      end = end;
      somewhere = λ none. let some = next_some p.log.memory parts.laid_out in omega (arith, end, none, some);
      inside = omega (arith, end, room);
      serials = extends.serials;
      rising = rising;
      tables = tables;
      cache = refl;
      waiting = refl;
      written = written;
      blocks = λ b other. blocks_put p.log.memory l.memory _ e.rest extends next e.expects expects b
          (λ is. other (is ∙ sym end));
      unread = λ number low. subst (IsUnread (tree_of p number)) (sym end)
          (unread_next p number 0 parts is_log room low);
      records = λ number. record_put p q number 0 parts is_log extends tables refl;
      step = step;
    }
