-- Answers are counted one by one: the count of a list with one more answer is one more where it is such a refusal, and
-- stays at the greatest number once it is there.
use Rattle.std.proofs.Common.{◌≡◌, ℕ, ◌+◌, ◌-◌, ◌^◌, ◌<◌, ◌≤◌, Bool, true, false, List, [], ◌∷◌, ◌++◌, refl, sym, ap, subst, ◌∙◌}
use Rattle.std.proofs.Common.{append_assoc, append-nil, codes, cond, ltb, arith, take, map, length, get_or}
use Rattle.std.specs.Prelude.{◌≢◌, count_by, decimal, if◌then◌else◌}
use Rattle.std.proofs.lemmas.Bool.{eq-eqb, le-ltb, lt-ltb, ltb-false, ltb-true, ne_eqb}
use Rattle.std.proofs.lemmas.List.{take_all, take_more}
use Rattle.std.proofs.lemmas.List.Sums.{sum_by-append}
use Rattle.lfs_types.specs.declared.answer.Answer.{Answer}
use Rattle.lfs_model.specs.declared.steps.StepAnswer.{StepAnswer}
use Rattle.lfs_model.specs.declared.steps.StepAnswer.TheVariants.{User}
use Rattle.lfs_model.specs.declared.counts.Counts.{Counts}
use Rattle.lfs_print.specs.ReportText.{count_line, counts_text, report_text}
use Rattle.lfs_sinks.specs.Sums.{counts_sum}
use Rattle.lfs_sinks.proofs.SumLemmas.{report_joined}
use Rattle.lfs_sinks.specs.Refusals.{AddsUp, capped, refused_for, refused_line, refusals_of, refusals_text}
use Rattle.lfs_sinks.specs.Refusals.{run_report, tally_of}
use Rattle.lfs_sinks.specs.Refusals.{wants_memory, wants_room}
use Rattle.lfs_sinks.specs.declared.refusals.Refusals.{Refusals}
use Rattle.lfs_sinks.specs.declared.totals.Tally.{Tally}
use Rattle.lfs_model.specs.Counts.{counts_of}
use Rattle.lfs_model.specs.declared.journal.Entry.{Entry}

abbrev counted : Bool → ℕ → ℕ
counted met number = if met then capped (number + 1) else number

capped_low : (n : ℕ) → n < 2 ^ 64 → capped n ≡ n
capped_low n lt = rw (lt-ltb n (2 ^ 64) lt) refl

capped_high : (n : ℕ) → 2 ^ 64 ≤ n → capped n ≡ 2 ^ 64 - 1
capped_high n le = rw (le-ltb n (2 ^ 64) le) refl

capped_next_so : (n : ℕ) (b : Bool) → ltb n (2 ^ 64) ≡ b → capped (capped n + 1) ≡ capped (n + 1)
capped_next_so n true is = ap (λ (m : ℕ). capped (m + 1)) (capped_low n (ltb-true n (2 ^ 64) is))
capped_next_so n false is =
    let le = ltb-false n (2 ^ 64) is in
    ap (λ (m : ℕ). capped (m + 1)) (capped_high n le) ∙ sym (capped_high (n + 1) (omega (arith, le)))

capped_next : (n : ℕ) → capped (capped n + 1) ≡ capped (n + 1)
capped_next n = capped_next_so n (ltb n (2 ^ 64)) refl

counted_so : (met : Bool) (n : ℕ) → counted met (capped n) ≡ capped (n + cond met 1 0)
counted_so true n = capped_next n
counted_so false n = let none : n ≡ n + 0 = omega arith in ap capped none

counted_more : (p : StepAnswer → Bool) (answers : List StepAnswer) (a : StepAnswer)
    → counted (p a) (capped (count_by p answers)) ≡ capped (count_by p (answers ++ a ∷ []))
counted_more p answers a =
    let one : cond (p a) 1 0 ≡ count_by p (a ∷ []) = omega arith in
    counted_so (p a) (count_by p answers)
    ∙ ap capped (ap (λ (n : ℕ). count_by p answers + n) one
    ∙ sym (sum_by-append (λ x. cond (p x) 1 0) answers (a ∷ [])))

abbrev counts_as : ℕ → ℕ → Refusals
counts_as room memory = record { journal_full = room; no_memory = memory }

-- one more answer was counted
pub adds_one : (old new : Refusals) (a : StepAnswer)
    → new.journal_full ≡ counted (wants_room (refused_for a)) old.journal_full
    → new.no_memory ≡ counted (wants_memory (refused_for a)) old.no_memory → AddsUp old new (a ∷ [])
adds_one old new a full lack = λ answers is.
    let room = full ∙ ap (λ (r : Refusals). counted (wants_room (refused_for a)) r.journal_full) is
    ∙ counted_more (λ x. wants_room (refused_for x)) answers a in
    let memory = lack ∙ ap (λ (r : Refusals). counted (wants_memory (refused_for a)) r.no_memory) is
    ∙ counted_more (λ x. wants_memory (refused_for x)) answers a in
    ap (λ (n : ℕ). counts_as n new.no_memory) room
    ∙ ap (counts_as (capped (count_by (λ x. wants_room (refused_for x)) (answers ++ a ∷ [])))) memory

-- nothing was counted
pub adds_none : (r : Refusals) → AddsUp r r []
adds_none r = λ answers is. is ∙ ap refusals_of (sym (append-nil answers))

-- some were counted, and then more
pub adds_joined : (old middle new : Refusals) (first more : List StepAnswer) → AddsUp old middle first
    → AddsUp middle new more → AddsUp old new (first ++ more)
adds_joined old middle new first more before behind = λ answers is.
    behind (answers ++ first) (before answers is) ∙ ap refusals_of (append_assoc answers first more)

map_joined : (xs : List Answer) (a : Answer) → map User (xs ++ a ∷ []) ≡ map User xs ++ User a ∷ []
map_joined [] a = refl
map_joined (x ∷ xs) a = ap (λ (l : List StepAnswer). User x ∷ l) (map_joined xs a)

-- one more of a list of answers was counted
pub adds_next : (old middle new : Refusals) (answers : List Answer) (k : ℕ) (d : Answer) → k < length answers
    → get_or answers k d ≡ d → AddsUp old middle (map User (take k answers)) → AddsUp middle new (User d ∷ [])
    → AddsUp old new (map User (take (k + 1) answers))
adds_next old middle new answers k d lt here before behind =
    subst (λ (l : List StepAnswer). AddsUp old new l)
    (sym (ap (map User) (take_more answers k d lt) ∙ map_joined (take k answers) (get_or answers k d)
    ∙ ap (λ (a : Answer). map User (take k answers) ++ User a ∷ []) here))
    (adds_joined old middle new (map User (take k answers)) (User d ∷ []) before behind)

-- all of them were counted
pub adds_all : (old new : Refusals) (answers : List Answer) (k : ℕ) → length answers ≤ k
    → AddsUp old new (map User (take k answers)) → AddsUp old new (map User answers)
adds_all old new answers k le all =
    subst (λ (l : List Answer). AddsUp old new (map User l)) (take_all k answers le) all

abbrev tally_as : Counts → Refusals → Tally
tally_as totals refusals = record { totals = totals; refusals = refusals }

-- what is counted, part by part
pub tally_is : (tally : Tally) (handed : List Entry) (answers : List StepAnswer) → tally.totals ≡ counts_of handed
    → tally.refusals ≡ refusals_of answers → tally ≡ tally_of handed answers
tally_is tally handed answers totals refusals =
    ap (λ (c : Counts). tally_as c tally.refusals) totals ∙ ap (tally_as (counts_of handed)) refusals

-- the report of what is counted
pub tally_reported : (out middle new : List ℕ) (tally : Tally) (counts : Counts) (handed kept : List Entry)
    (answers : List StepAnswer) → tally ≡ tally_of handed answers → counts ≡ counts_of kept
    → middle ≡ out ++ counts_text (counts_sum tally.totals counts) → new ≡ middle ++ refusals_text tally.refusals
    → new ≡ out ++ run_report (handed ++ kept) answers
tally_reported out middle new tally counts handed kept answers is same summed grown =
    let sums = counts_text (counts_sum tally.totals counts) in
    grown
    ∙ ap (λ (l : List ℕ). l ++ refusals_text tally.refusals) summed
    ∙ append_assoc out sums (refusals_text tally.refusals)
    ∙ ap (λ (l : List ℕ). out ++ (l ++ refusals_text tally.refusals))
    (report_joined tally.totals counts handed kept (ap (λ (t : Tally). t.totals) is) same)
    ∙ ap (λ (t : Tally). out ++ (report_text (handed ++ kept) ++ refusals_text t.refusals)) is

-- ---- lines

-- none was refused so
pub refused_none : (out word : List ℕ) (number : ℕ) → number ≡ 0 → out ≡ out ++ refused_line word number
unfolding refused_line
refused_none out word number none =
    let empty : refused_line word number ≡ [] = rw (eq-eqb number 0 none) refl in
    sym (ap (λ xs. out ++ xs) empty ∙ append-nil out)

-- some were
pub refused_some : (out a new word : List ℕ) (number : ℕ) → number ≢ 0
    → a ≡ out ++ codes "unentered " → new ≡ a ++ count_line word number → new ≡ out ++ refused_line word number
unfolding count_line refused_line
refused_some out a new word number some one two =
    let line = codes "unentered" ++ 32 ∷ word ++ 32 ∷ decimal number ++ 10 ∷ [] in
    let shown : refused_line word number ≡ line = rw (ne_eqb number 0 some) refl in
    rw (two, one) (append_assoc out (codes "unentered ") (word ++ 32 ∷ decimal number ++ 10 ∷ [])
    ∙ ap (λ xs. out ++ xs) (sym shown))
