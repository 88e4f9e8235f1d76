-- Counts of two journals, added, are those of both: `counts_joined` for lfs_live and lfs_audit, `report_joined` for
-- RefusalLemmas. Each count is of the entries that pass a test, and of two lists joined that is the sum of both;
-- denials so rule by rule. `sums_more`, for `added`: the sums of the first i + 1 places are those of the first i, with
-- place i added. `totals_length`, for `Totals::entries`: each entry passes just one of four tests (`one_each`), so the
-- four counts together are as many as the entries.
use Rattle.std.proofs.Common.{◌≡◌, ℕ, zero, suc, ◌+◌, ◌<◌, Bool, List, [], ◌∷◌, ◌++◌, length, take, get_or, map, set}
use Rattle.std.proofs.Common.{refl, sym, ap, ◌∙◌, arith}
use Rattle.std.specs.Prelude.{cond, count_by}
use Rattle.std.proofs.lemmas.List.Sums.{sum_by-append, sum_by-cons}
use Rattle.lfs_model.specs.Counts.{counts_of, denials, is_cleaner, is_denied, is_denied_by, is_refused, is_served}
use Rattle.lfs_model.specs.declared.counts.Counts.{Counts}
use Rattle.lfs_model.specs.declared.journal.Entry.{Entry}
use Rattle.lfs_model.specs.declared.journal.Event.{Event}
use Rattle.lfs_model.specs.declared.journal.Event.TheVariants.{User, Cleaner}
use Rattle.lfs_print.specs.ReportText.{counts_text, report_text}
use Rattle.lfs_print.proofs.ReportLemmas.{report_same}
use Rattle.lfs_types.specs.RuleCodes.{rules}
use Rattle.lfs_types.specs.declared.answer.Answer.TheVariants.{Served, Denied, Refused}
use Rattle.lfs_types.specs.declared.rule.Rule.{Rule}
use Rattle.lfs_sinks.specs.Sums.{counts_sum, sums}

count_joined : {X : Type 0} (p : X → Bool) (xs ys : List X) → count_by p (xs ++ ys) ≡ count_by p xs + count_by p ys
count_joined p xs ys = sum_by-append (λ x. cond (p x) 1 0) xs ys

denials_joined : (counted : List Rule) (xs ys : List Entry)
    → map (λ rule. denials rule (xs ++ ys)) counted
    ≡ sums (map (λ rule. denials rule xs) counted) (map (λ rule. denials rule ys) counted)
denials_joined [] xs ys = refl
denials_joined (rule ∷ counted) xs ys =
    rw (count_joined (λ (e : Entry). is_denied_by rule e.event) xs ys, denials_joined counted xs ys) refl

pub counts_joined : (xs ys : List Entry) → counts_sum (counts_of xs) (counts_of ys) ≡ counts_of (xs ++ ys)
counts_joined xs ys =
    rw (
      count_joined (λ (e : Entry). is_served e.event) xs ys,
      count_joined (λ (e : Entry). is_denied e.event) xs ys,
      count_joined (λ (e : Entry). is_refused e.event) xs ys,
      count_joined (λ (e : Entry). is_cleaner e.event) xs ys,
      denials_joined rules xs ys,
    ) refl

-- the report of counts that are added
pub report_joined : (totals counts : Counts) (handed kept : List Entry) → totals ≡ counts_of handed → counts
    ≡ counts_of kept
    → counts_text (counts_sum totals counts) ≡ report_text (handed ++ kept)
report_joined totals counts handed kept first then =
    ap (λ (c : Counts). counts_text (counts_sum c counts)) first
    ∙ ap (λ (c : Counts). counts_text (counts_sum (counts_of handed) c)) then
    ∙ ap counts_text (counts_joined handed kept) ∙ report_same (handed ++ kept)

-- ---- numbers in their places

pub sums_none : (numbers : List ℕ) → sums numbers [] ≡ numbers
sums_none [] = refl
sums_none (n ∷ numbers) = refl

sums-next : (numbers others : List ℕ) (i : ℕ) → i < length numbers → i < length others
    → set (sums numbers (take i others)) i (get_or numbers i 0 + get_or others i 0) ≡ sums numbers (take (suc i) others)
sums-next [] others i lt less = absurd (omega (arith, lt))
sums-next (n ∷ numbers) [] i lt less = absurd (omega (arith, less))
sums-next (n ∷ numbers) (o ∷ others) zero lt less = ap (λ (l : List ℕ). (n + o) ∷ l) (sym (sums_none numbers))
sums-next (n ∷ numbers) (o ∷ others) (suc i) lt less =
    ap (λ (l : List ℕ). (n + o) ∷ l) (sums-next numbers others i (omega (arith, lt)) (omega (arith, less)))

-- one more number is added
pub sums_more : (numbers others : List ℕ) (i : ℕ) → i < length numbers → i < length others
    → set (sums numbers (take i others)) i (get_or numbers i 0 + get_or others i 0) ≡ sums numbers (take (i + 1) others)
sums_more numbers others i lt less =
    let next : suc i ≡ i + 1 = omega arith in
    sums-next numbers others i lt less ∙ ap (λ (k : ℕ). sums numbers (take k others)) next

-- ---- each entry is counted once

one_each : (event : Event)
    → cond (is_served event) 1 0 + cond (is_denied event) 1 0 + cond (is_refused event) 1 0 + cond (is_cleaner event) 1 0
    ≡ 1
unfolding is_served is_denied is_refused is_cleaner
one_each (User request (Served shown)) = refl
one_each (User request (Denied denial)) = refl
one_each (User request (Refused resource)) = refl
one_each (Cleaner kind outcome) = refl

-- one entry more
count_next : {X : Type 0} (p : X → Bool) (x : X) (xs : List X) → count_by p (x ∷ xs) ≡ cond (p x) 1 0 + count_by p xs
count_next p x xs = sum_by-cons (λ y. cond (p y) 1 0) x xs

counted_once : (entries : List Entry)
    → count_by (λ (e : Entry). is_served e.event) entries + count_by (λ (e : Entry). is_denied e.event) entries
    + count_by (λ (e : Entry). is_refused e.event) entries + count_by (λ (e : Entry). is_cleaner e.event) entries
    ≡ length entries
counted_once [] = refl
counted_once (entry ∷ entries) =
    omega (
      arith,
      one_each entry.event,
      counted_once entries,
      count_next (λ (e : Entry). is_served e.event) entry entries,
      count_next (λ (e : Entry). is_denied e.event) entry entries,
      count_next (λ (e : Entry). is_refused e.event) entry entries,
      count_next (λ (e : Entry). is_cleaner e.event) entry entries,
    )

pub totals_length : (totals : Counts) (entries : List Entry) → totals ≡ counts_of entries
    → totals.served + totals.denied + totals.refused + totals.cleaner ≡ length entries
totals_length totals entries is = ap (λ (c : Counts). c.served + c.denied + c.refused + c.cleaner) is
    ∙ counted_once entries
