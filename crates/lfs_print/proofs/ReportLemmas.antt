-- The lines of the rules grow one by one to those that the specification names (`denials_more` and `denials_all` for
-- `push_denials`), and counts give the report over their journal (`report_same`). A rule that denied nothing has no line
-- (`rule_none`). The entries are served, denied, refused or the cleaner's, just one of them (`four`), so their count is
-- the sum of the four counts (`sum_of`); a fifth kind of answer would break that sum.
use Rattle.std.proofs.Common.{◌≡◌, ℕ, ◌+◌, ◌<◌, ◌≤◌, List, [], ◌∷◌, ◌++◌, length, take, get_or, map, codes, refl, ap}
use Rattle.std.proofs.Common.{sym, ◌∙◌, append_assoc, arith}
use Rattle.std.specs.Prelude.{◌≢◌, cond, count_by, decimal}
use Rattle.std.specs.List.{flat_map, zip}
use Rattle.std.proofs.lemmas.Bool.{eq-eqb, ne_eqb}
use Rattle.std.proofs.lemmas.List.{append-nil, flat_map_more, take_all, take_more}
use Rattle.std.proofs.lemmas.List.Sums.{sum_by-cons}
use Rattle.std.proofs.lemmas.Slice.Zip.{get_or-zip, length-zip}
use Rattle.lfs_model.specs.Counts.{counts_of, denials, is_cleaner, is_denied, is_refused, is_served}
use Rattle.lfs_model.specs.declared.journal.Entry.{Entry}
use Rattle.lfs_model.specs.declared.journal.Event.{Event}
use Rattle.lfs_model.specs.declared.journal.Event.TheVariants.{User, Cleaner}
use Rattle.lfs_types.specs.RuleCodes.{rule_code, rules}
use Rattle.lfs_types.specs.declared.answer.Answer.TheVariants as answer
use Rattle.lfs_types.specs.declared.rule.Rule.{Rule}
use Rattle.lfs_print.specs.ReportText.{count_line, counts_text, denials_line, report_text, rule_line}

-- a rule that denied no call
pub rule_none : (out : List ℕ) (rule : Rule) (number : ℕ) → number ≡ 0 → out ≡ out ++ denials_line (rule, number)
unfolding denials_line
rule_none out rule number none =
    let empty : denials_line (rule, number) ≡ [] = rw (eq-eqb number 0 none) refl in
    sym (ap (λ xs. out ++ xs) empty ∙ append-nil out)

-- a rule that denied some
pub rule_added : (out a new code : List ℕ) (rule : Rule) (number : ℕ) → number ≢ 0
    → a ≡ out ++ codes "rule " → code ≡ rule_code rule → new ≡ a ++ count_line code number → new ≡ out
    ++ denials_line (rule, number)
unfolding count_line denials_line
rule_added out a new code rule number some one coded two =
    let line = codes "rule" ++ 32 ∷ rule_code rule ++ 32 ∷ decimal number ++ 10 ∷ [] in
    let shown : denials_line (rule, number) ≡ line = rw (ne_eqb number 0 some) refl in
    rw (two, coded, one) (append_assoc out (codes "rule ") (rule_code rule ++ 32 ∷ decimal number ++ 10 ∷ [])
    ∙ ap (λ xs. out ++ xs) (sym shown))

-- one more rule and its number
pub denials_more : (out done new : List ℕ) (all : List Rule) (numbers : List ℕ) (i number : ℕ) (d : Rule)
    → length numbers ≡ length all → i < length all
    → number ≡ get_or numbers i 0
    → done ≡ out ++ flat_map denials_line (take i (zip all numbers)) → new ≡ done
    ++ denials_line (get_or all i d, number)
    → new ≡ out ++ flat_map denials_line (take (i + 1) (zip all numbers))
denials_more out done new all numbers i number d same lt is so_far grown =
    let long : i < length (zip all numbers) = omega (arith, length-zip all numbers, same) in
    let here : get_or (zip all numbers) i (d, 0)
    ≡ (get_or all i d, get_or numbers i 0) = get_or-zip all numbers i (d, 0) lt (omega (arith, same)) in
    rw (grown, is, so_far, take_more (zip all numbers) i (d, 0) long, sym here)
    (flat_map_more denials_line out (take i (zip all numbers)) (get_or (zip all numbers) i (d, 0)))

-- all of them
pub denials_all : (out done : List ℕ) (all : List Rule) (numbers : List ℕ) (i : ℕ) → length all ≤ i
    → done ≡ out ++ flat_map denials_line (take i (zip all numbers)) → done ≡ out
    ++ flat_map denials_line (zip all numbers)
denials_all out done all numbers i le so_far =
    so_far ∙ ap (λ xs. out ++ flat_map denials_line xs)
    (take_all i (zip all numbers) (omega (arith, length-zip all numbers)))

-- the lines of rules with the numbers that a journal has of them
zipped : (entries : List Entry) (all : List Rule)
    → flat_map denials_line (zip all (map (λ rule. denials rule entries) all)) ≡ flat_map (rule_line entries) all
zipped entries [] = refl
zipped entries (rule ∷ others) = ap (λ xs. denials_line (rule, denials rule entries) ++ xs) (zipped entries others)

-- an event is one of the four
four : (event : Event)
    → cond (is_served event) 1 0 + cond (is_denied event) 1 0 + cond (is_refused event) 1 0
    + cond (is_cleaner event) 1 0 ≡ 1
unfolding is_served is_denied is_refused is_cleaner
four (User request (answer.Served shown)) = refl
four (User request (answer.Denied denial)) = refl
four (User request (answer.Refused resource)) = refl
four (Cleaner kind came) = refl

-- so their numbers are those of the entries
sum_of : (entries : List Entry)
    → count_by (λ entry. is_served entry.event) entries + count_by (λ entry. is_denied entry.event) entries
    + count_by (λ entry. is_refused entry.event) entries + count_by (λ entry. is_cleaner entry.event) entries
    ≡ length entries
sum_of [] = refl
sum_of (entry ∷ entries) = omega (
  arith,
  four entry.event,
  sum_of entries,
  sum_by-cons (λ (e : Entry). cond (is_served e.event) 1 0) entry entries,
  sum_by-cons (λ (e : Entry). cond (is_denied e.event) 1 0) entry entries,
  sum_by-cons (λ (e : Entry). cond (is_refused e.event) 1 0) entry entries,
  sum_by-cons (λ (e : Entry). cond (is_cleaner e.event) 1 0) entry entries,
)

-- the report of counts is that over a journal of which they are the counts
pub report_same : (entries : List Entry) → counts_text (counts_of entries) ≡ report_text entries
report_same entries = rw (sum_of entries, zipped entries rules) (simp append_assoc)
