-- Entries are equal where the same bytes spell them.
use Rattle.std.proofs.Common.{◌≡◌, ℕ, ◌+◌, ◌*◌, ◌<◌, ◌≤◌, List, slice_index, sym, ◌∙◌, ⊎_elim, arith}
use Rattle.std.proofs.lemmas.Bool.{cases_lt}
use Rattle.std.proofs.lemmas.List.{ext_get_or}
use Rattle.lfs_segments.specs.declared.entry.SummaryEntry.{SummaryEntry}
use Rattle.lfs_segments.specs.Bytes.{IsBlock}
use Rattle.lfs_segments.proofs.BytesLemmas.{word_bytes}
use Rattle.lfs_segments.proofs.TestLemmas.{entry_from-spelled}
use Rattle.lfs_segments.specs.Entry.{IsEntry, IsEntryAt, AreEntriesAt, unused}

-- twelve bytes spell one entry
same_entry : (bytes : List ℕ) (place : ℕ) (e f : SummaryEntry) → IsEntry e → IsEntry f → IsEntryAt bytes place e
    → IsEntryAt bytes place f → e ≡ f
same_entry bytes place e f p q r s = sym (entry_from-spelled bytes place e p r) ∙ entry_from-spelled bytes place f q s

-- the bytes of a summary spell one list of entries
pub same_entries : (bytes : List ℕ) (count : ℕ) (xs ys : List SummaryEntry) → AreEntriesAt bytes count xs
    → AreEntriesAt bytes count ys → xs ≡ ys
same_entries bytes count xs ys p q =
    ext_get_or unused xs ys (p.whole ∙ sym q.whole) (λ k _. ⊎_elim
    (λ below. same_entry bytes (16 + 12 * k) _ _ (p.named k below) (q.named k below) (p.spelled k below)
    (q.spelled k below))
    (λ past. p.rest k past ∙ sym (q.rest k past))
    (cases_lt k count))

-- an entry is spelled by one run of twelve bytes
pub entry_bytes : (xs ys : List ℕ) (place i : ℕ) (e : SummaryEntry) → IsBlock xs → IsBlock ys → IsEntryAt xs place e
    → IsEntryAt ys place e → place ≤ i → i < place + 12 → slice_index xs i ≡ slice_index ys i
entry_bytes xs ys place i e p q r s low high = ⊎_elim
    (λ lt. word_bytes xs ys place i p q (r.number ∙ sym s.number) low lt)
    (λ ge. ⊎_elim
    (λ lt. word_bytes xs ys (place + 4) i p q (r.version ∙ sym s.version) ge (omega arith))
    (λ gt. word_bytes xs ys (place + 8) i p q (r.block ∙ sym s.block) gt (omega arith))
    (cases_lt i (place + 8)))
    (cases_lt i (place + 4))
