-- A block spells one summary (`same_summary`, for `Summary::parse`), and a summary is spelled by one block
-- (`same_spelling`, for `Summary::encode`). A block has each field at a place of its own, so two summaries of one block
-- have the same fields; what a summary proves of its fields is a proposition, so they are one (`same_fields`). The
-- other way each byte is a field's, an entry's at 16 + 12 k, or 0 behind these (`same_byte`). Bytes 12 to 15 are left
-- out of this (`SpellsRest`), as SerialLemmas needs the same of blocks that have a serial there.
use Rattle.std.proofs.Common.{◌≡◌, ℕ, ◌+◌, ◌-◌, ◌*◌, ◌/◌, ◌<◌, ◌≤◌, List, length, get_or, slice_index, sym, subst, ◌∙◌}
use Rattle.std.proofs.Common.{⊎_elim, arith}
use Rattle.std.proofs.lemmas.Bool.{cases_lt}
use Rattle.std.proofs.lemmas.List.{ext_get_or}
use Rattle.std.proofs.Props.{props}
use mathlib.Core.HLevel.{is_prop→PathP}
use Rattle.lfs_segments.specs.declared.summary.Summary.{Summary}
use Rattle.lfs_segments.specs.Entry.{IsEntry, IsEntryAt, AreNamed-prop, AreEntriesAt, unused}
use Rattle.lfs_segments.specs.Summary.{IsSummaryBlock}
use Rattle.lfs_segments.specs.Bytes.{IsBlock, half_at, word_at}
use Rattle.lfs_segments.proofs.BytesLemmas.{word_bytes, half_bytes}
use Rattle.lfs_segments.proofs.EntryLemmas.{same_entries, entry_bytes}

-- a summary is what its fields are
pub same_fields : (s t : Summary) → s.segment ≡ t.segment → s.offset ≡ t.offset → s.count ≡ t.count → s.entries
    ≡ t.entries → s ≡ t
same_fields s t segment offset count entries = λ i. record {
  segment = segment i;
  offset = offset i;
  count = count i;
  entries = entries i;
  in_volume = is_prop→PathP (λ j. segment j < 1024) (λ j. hlevel props) s.in_volume t.in_volume i;
  some = is_prop→PathP (λ j. 0 < count j) (λ j. hlevel props) s.some t.some i;
  at_most = is_prop→PathP (λ j. count j ≤ 40) (λ j. hlevel props) s.at_most t.at_most i;
  in_segment = is_prop→PathP (λ j. offset j + count j ≤ 63) (λ j. hlevel props) s.in_segment t.in_segment i;
  whole = is_prop→PathP (λ j. length (entries j) ≡ 40) (λ j. hlevel props) s.whole t.whole i;
  named = is_prop→PathP (λ j. (k : ℕ) → k < count j → IsEntry (get_or (entries j) k unused))
      (λ j. AreNamed-prop (count j) (entries j)) s.named t.named i;
  rest = is_prop→PathP (λ j. (k : ℕ) → count j ≤ k → get_or (entries j) k unused ≡ unused)
      (λ j. hlevel props) s.rest t.rest i;
}

-- the entries of a summary are those that its block spells
pub entries_of : (bytes : List ℕ) (s : Summary) → IsSummaryBlock bytes s → AreEntriesAt bytes s.count s.entries
entries_of bytes s p = record { whole = s.whole; named = s.named; spelled = p.entries; rest = s.rest }

-- a block spells one summary
pub same_summary : (bytes : List ℕ) (s t : Summary) → IsSummaryBlock bytes s → IsSummaryBlock bytes t → s ≡ t
same_summary bytes s t p q =
    let count : s.count ≡ t.count = sym p.count ∙ q.count in
    same_fields s t (sym p.segment ∙ q.segment) (sym p.offset ∙ q.offset) count
    (same_entries bytes t.count s.entries t.entries
    (subst (λ (n : ℕ). AreEntriesAt bytes n s.entries) count (entries_of bytes s p)) (entries_of bytes t q))

-- what all bytes of a summary but 12 to 15 spell
pub record SpellsRest (bytes : List ℕ) (s : Summary) : Type 0 where
  pub mark : word_at bytes 0 ≡ 0x4c46_5353
  pub segment : word_at bytes 4 ≡ s.segment
  pub offset : half_at bytes 8 ≡ s.offset
  pub count : half_at bytes 10 ≡ s.count
  pub entries : (k : ℕ) → k < s.count → IsEntryAt bytes (16 + 12 * k) (get_or s.entries k unused)
  pub rest : (i : ℕ) → 16 + 12 * s.count ≤ i → slice_index bytes i ≡ 0

pub rest_of : (bytes : List ℕ) (s : Summary) → IsSummaryBlock bytes s → SpellsRest bytes s
rest_of bytes s p = record {
  mark = p.mark;
  segment = p.segment;
  offset = p.offset;
  count = p.count;
  entries = p.entries;
  rest = p.rest;
}

-- of two blocks that spell one summary, each byte is the same where those of bytes 12 to 15 are
same_byte : (xs ys : List ℕ) (s : Summary) → IsBlock xs → IsBlock ys → word_at xs 12 ≡ word_at ys 12 → SpellsRest xs s
    → SpellsRest ys s → (i : ℕ) → slice_index xs i ≡ slice_index ys i
same_byte xs ys s p q gap r t i =
    let k : ℕ = (i - 16) / 12 in
    ⊎_elim
    (λ lt. word_bytes xs ys 0 i p q (r.mark ∙ sym t.mark) (omega arith) lt)
    (λ from4. ⊎_elim
    (λ lt. word_bytes xs ys 4 i p q (r.segment ∙ sym t.segment) from4 lt)
    (λ from8. ⊎_elim
    (λ lt. half_bytes xs ys 8 i p q (r.offset ∙ sym t.offset) from8 lt)
    (λ from10. ⊎_elim
    (λ lt. half_bytes xs ys 10 i p q (r.count ∙ sym t.count) from10 lt)
    (λ from12. ⊎_elim
    (λ lt. word_bytes xs ys 12 i p q gap from12 lt)
    (λ from16. ⊎_elim
    (λ lt. let below : k < s.count = omega arith in
    entry_bytes xs ys (16 + 12 * k) i _ p q (r.entries k below) (t.entries k below) (omega arith) (omega arith))
    (λ past. r.rest i past ∙ sym (t.rest i past))
    (cases_lt i (16 + 12 * s.count)))
    (cases_lt i 16))
    (cases_lt i 12))
    (cases_lt i 10))
    (cases_lt i 8))
    (cases_lt i 4)

pub same_block : (xs ys : List ℕ) (s : Summary) → IsBlock xs → IsBlock ys → word_at xs 12 ≡ word_at ys 12
    → SpellsRest xs s → SpellsRest ys s → xs ≡ ys
same_block xs ys s p q gap r t =
    ext_get_or 0 xs ys (p.whole ∙ sym q.whole) (λ i _. same_byte xs ys s p q gap r t i)

-- one block spells a summary
pub same_spelling : (xs ys : List ℕ) (s : Summary) → IsBlock xs → IsBlock ys → IsSummaryBlock xs s → IsSummaryBlock ys s
    → xs ≡ ys
same_spelling xs ys s p q r t = same_block xs ys s p q (r.gap ∙ sym t.gap) (rest_of xs s r) (rest_of ys s t)
