-- The counts that are kept with a journal are those over its entries: `counts_push` and `counts_few` for
-- `Volume::enter`, and the cases of `Counts::add_answer` and `add_outcome`. A sum over entries grows by one where the
-- last one passes the test; a denial counts for one rule alone because no two of the 20 rules have one code, which is
-- computed (`are_apart`). A rule more needs its place in the list of all rules and a code of its own, else
-- `denial_counted` falls.
use Rattle.std.proofs.Common.{◌≡◌, ℕ, zero, suc, ◌+◌, ◌-◌, ◌^◌, ◌<◌, ◌≤◌, Bool, true, false, not, ◌&&◌, List, [], ◌∷◌}
use Rattle.std.proofs.Common.{◌++◌, length, get_or, map, None, Some, refl, ap, sym, subst, ◌∙◌, arith}
use Rattle.std.specs.Prelude.{cond, count_by, slice_get, slice_index_or, slice_set}
use Rattle.std.proofs.lemmas.Bool.{and_parts, not-true}
use Rattle.std.proofs.lemmas.List.Elements.{All-map}
use Rattle.std.proofs.lemmas.Slice.Eq.{bytes_eq-Decides}
use Rattle.std.proofs.lemmas.List.Sums.{count_by-le-length, sum_by_push}
use Rattle.lfs_model.specs.Counts.{AreFew, count_after, counts_after, counts_of, denials, denials_after, denied_by}
use Rattle.lfs_model.specs.Counts.{is_cleaner, is_denied, is_denied_by, is_refused, is_served, same_rule}
use Rattle.lfs_model.specs.declared.counts.Counts.{Counts}
use Rattle.lfs_model.specs.declared.asking.CleanerAct.{CleanerAct}
use Rattle.lfs_model.specs.declared.journal.CleanerOutcome.{CleanerOutcome}
use Rattle.lfs_model.specs.declared.journal.CleanerOutcome.TheVariants as outcome
use Rattle.lfs_model.specs.declared.journal.Entry.{Entry}
use Rattle.lfs_model.specs.declared.journal.Event.TheVariants.{User, Cleaner}
use Rattle.lfs_types.specs.RuleCodes.{rule_code, rules}
use Rattle.lfs_types.specs.declared.answer.Answer.{Answer}
use Rattle.lfs_types.specs.declared.answer.Answer.TheVariants as answer
use Rattle.lfs_types.specs.declared.answer.Resource.{Resource}
use Rattle.lfs_types.specs.declared.answer.Served.{Served}
use Rattle.lfs_types.specs.declared.cleaner.CleanFault.{CleanFault}
use Rattle.lfs_types.specs.declared.request.Request.{Request}
use Rattle.lfs_types.specs.declared.rule.Denial.{Denial}
use Rattle.lfs_types.specs.declared.rule.Rule.{Rule}
use Rattle.lfs_types.specs.declared.rule.Rule.TheVariants.{IsSuperuser}

-- a number and 1 or 0
added : (met : Bool) (number : ℕ) → number + cond met 1 0 ≡ count_after met number
added true number = refl
added false number = omega arith

-- one more element
count_push : {X : Type 0} (p : X → Bool) (xs : List X) (x : X) → count_by p (xs ++ x ∷ [])
    ≡ count_after (p x) (count_by p xs)
count_push p xs x = sum_by_push (λ y. cond (p y) 1 0) xs x ∙ added (p x) (count_by p xs)

-- the denials by each of a list of rules, with one more entry
denials_push : (counted : List Rule) (entries : List Entry) (entry : Entry)
    → map (λ rule. denials rule (entries ++ entry ∷ [])) counted
    ≡ denials_after (denied_by entry.event) counted (map (λ rule. denials rule entries) counted)
denials_push [] entries entry = refl
denials_push (rule ∷ counted) entries entry =
    let here : denials rule (entries ++ entry ∷ []) ≡ count_after (is_denied_by rule entry.event) (denials rule entries)
    = count_push (λ (e : Entry). is_denied_by rule e.event) entries entry in
    rw (here, denials_push counted entries entry) refl

-- the counts with one more entry
pub counts_push : (entries : List Entry) (entry : Entry) → counts_of (entries ++ entry ∷ [])
    ≡ counts_after entry.event (counts_of entries)
counts_push entries entry =
    rw (
      count_push (λ (e : Entry). is_served e.event) entries entry,
      count_push (λ (e : Entry). is_denied e.event) entries entry,
      count_push (λ (e : Entry). is_refused e.event) entries entry,
      count_push (λ (e : Entry). is_cleaner e.event) entries entry,
      denials_push rules entries entry,
    ) refl

-- a number that is at most one below the bound
below : (a n : ℕ) → a ≤ n → n < 2 ^ 32 - 1 → a < 2 ^ 32 - 1
below a n le few = omega arith

-- the counts of a journal that is short enough
pub counts_few : (entries : List Entry) → length entries < 2 ^ 32 - 1 → AreFew (counts_of entries)
counts_few entries few = record {
  served = below _ _ (count_by-le-length (λ (e : Entry). is_served e.event) entries) few;
  denied = below _ _ (count_by-le-length (λ (e : Entry). is_denied e.event) entries) few;
  refused = below _ _ (count_by-le-length (λ (e : Entry). is_refused e.event) entries) few;
  cleaner = below _ _ (count_by-le-length (λ (e : Entry). is_cleaner e.event) entries) few;
  rules = All-map (λ number. number < 2 ^ 32 - 1) (λ rule. denials rule entries) rules
      (λ i d lt. below _ _ (count_by-le-length (λ (e : Entry). is_denied_by (get_or rules i d) e.event) entries) few);
}

-- whether a rule is none of a list
abbrev is_apart : Rule → List Rule → Bool
is_apart rule [] = true
is_apart rule (other ∷ others) =
    (not (same_rule rule other) && not (same_rule other rule)) && is_apart rule others

-- whether no two of a list of rules are the same one
abbrev are_apart : List Rule → Bool
are_apart [] = true
are_apart (rule ∷ others) = is_apart rule others && are_apart others

-- a rule of the list
apart_at : (rule : Rule) (others : List Rule) (i : ℕ) (other : Rule) → is_apart rule others ≡ true → slice_get others i
    ≡ Some other
    → same_rule other rule ≡ false
apart_at rule [] i other apart at = absurd (cc)
apart_at rule (o ∷ others) zero other apart at =
    let e : o ≡ other = cc in
    subst (λ r. same_rule r rule ≡ false) e
    (not-true _ (and_parts _ _ (and_parts _ _ apart).0).1)
apart_at rule (o ∷ others) (suc i) other apart at = apart_at rule others i other (and_parts _ _ apart).1 at

-- a denial by a rule that no rule of the list is
none_denied : (rule : Rule) (others : List Rule) (numbers : List ℕ) → is_apart rule others ≡ true → length numbers
    ≡ length others
    → denials_after (Some rule) others numbers ≡ numbers
none_denied rule [] [] apart e = refl
none_denied rule [] (n ∷ numbers) apart e = absurd (omega (arith, e))
none_denied rule (o ∷ others) [] apart e = absurd (omega (arith, e))
none_denied rule (o ∷ others) (n ∷ numbers) apart e =
    let here : same_rule rule o ≡ false = not-true _ (and_parts _ _ (and_parts _ _ apart).0).0 in
    let behind : denials_after (Some rule) others numbers
    ≡ numbers = none_denied rule others numbers (and_parts _ _ apart).1 (omega (arith, e)) in
    rw (here, behind) refl

-- a rule's number is one more, where the rule stands in the list once
counted_at : (counted : List Rule) (numbers : List ℕ) (i : ℕ) (rule : Rule) → are_apart counted ≡ true → length numbers
    ≡ length counted
    → slice_get counted i ≡ Some rule → slice_set numbers i (slice_index_or numbers i 0 + 1)
    ≡ denials_after (Some rule) counted numbers
counted_at [] numbers i rule apart e at = absurd (cc)
counted_at (r ∷ counted) [] i rule apart e at = absurd (omega (arith, e))
counted_at (r ∷ counted) (n ∷ numbers) zero rule apart e at =
    let same : r ≡ rule = cc in
    let here : same_rule r r ≡ true = (bytes_eq-Decides (rule_code r) (rule_code r)).1 refl in
    let behind : denials_after (Some r) counted numbers
    ≡ numbers = none_denied r counted numbers (and_parts _ _ apart).0 (omega (arith, e)) in
    subst (λ x. (n + 1) ∷ numbers ≡ denials_after (Some x) (r ∷ counted) (n ∷ numbers)) same (rw (here, behind) refl)
counted_at (r ∷ counted) (n ∷ numbers) (suc i) rule apart e at =
    let here : same_rule rule r ≡ false = apart_at r counted i rule (and_parts _ _ apart).0 at in
    let behind : slice_set numbers i (slice_index_or numbers i 0 + 1) ≡ denials_after (Some rule) counted numbers
    = counted_at counted numbers i rule (and_parts _ _ apart).1 (omega (arith, e)) at in
    rw (here, behind) refl

-- a denial by a rule, in the order of all
pub denial_counted : (numbers : List ℕ) (i : ℕ) (rule : Rule) → length numbers ≡ 20 → slice_get rules i ≡ Some rule
    → slice_set numbers i (slice_index_or numbers i 0 + 1) ≡ denials_after (Some rule) rules numbers
denial_counted numbers i rule e at = counted_at rules numbers i rule refl e at

-- no denial
none_counted : (counted : List Rule) (numbers : List ℕ) → denials_after None counted numbers ≡ numbers
none_counted [] numbers = refl
none_counted (r ∷ counted) [] = refl
none_counted (r ∷ counted) (n ∷ numbers) = ap (λ xs. n ∷ xs) (none_counted counted numbers)

-- counts behind a user's call that was served, denied and refused
pub served_counted : (c : Counts) (request : Request) (given : Answer) (shown : Served) → given ≡ answer.Served shown
    → record { served = c.served + 1; denied = c.denied; refused = c.refused; cleaner = c.cleaner; rules = c.rules }
    ≡ counts_after (User request given) c
unfolding is_served is_denied is_refused is_cleaner
served_counted c request given shown e =
    subst (λ x. record {
      served = c.served + 1;
      denied = c.denied;
      refused = c.refused;
      cleaner = c.cleaner;
      rules = c.rules;
    } ≡ counts_after (User request x) c) (sym e)
    (ap (λ (xs : List ℕ). record {
      served = c.served + 1;
      denied = c.denied;
      refused = c.refused;
      cleaner = c.cleaner;
      rules = xs;
    }) (sym (none_counted rules c.rules)))

pub denied_counted : (c : Counts) (request : Request) (given : Answer) (denial : Denial) (numbers : List ℕ) → given
    ≡ answer.Denied denial
    → numbers ≡ denials_after (Some denial.rule) rules c.rules
    → record { served = c.served; denied = c.denied + 1; refused = c.refused; cleaner = c.cleaner; rules = numbers }
    ≡ counts_after (User request given) c
unfolding is_served is_denied is_refused is_cleaner
denied_counted c request given denial numbers e counted =
    subst (λ x. record {
      served = c.served;
      denied = c.denied + 1;
      refused = c.refused;
      cleaner = c.cleaner;
      rules = numbers;
    } ≡ counts_after (User request x) c) (sym e)
    (ap (λ (xs : List ℕ). record {
      served = c.served;
      denied = c.denied + 1;
      refused = c.refused;
      cleaner = c.cleaner;
      rules = xs;
    }) counted)

pub refused_counted : (c : Counts) (request : Request) (given : Answer) (resource : Resource) → given
    ≡ answer.Refused resource
    → record { served = c.served; denied = c.denied; refused = c.refused + 1; cleaner = c.cleaner; rules = c.rules }
    ≡ counts_after (User request given) c
unfolding is_served is_denied is_refused is_cleaner
refused_counted c request given resource e =
    subst (λ x. record {
      served = c.served;
      denied = c.denied;
      refused = c.refused + 1;
      cleaner = c.cleaner;
      rules = c.rules;
    } ≡ counts_after (User request x) c) (sym e)
    (ap (λ (xs : List ℕ). record {
      served = c.served;
      denied = c.denied;
      refused = c.refused + 1;
      cleaner = c.cleaner;
      rules = xs;
    }) (sym (none_counted rules c.rules)))

-- counts behind a cleaner's call that was denied, did nothing or is done
pub cleaner_denied_counted : (c : Counts) (act : CleanerAct) (came : CleanerOutcome) (numbers : List ℕ) → came
    ≡ outcome.Denied
    → numbers ≡ denials_after (Some IsSuperuser) rules c.rules
    → record { served = c.served; denied = c.denied; refused = c.refused; cleaner = c.cleaner + 1; rules = numbers }
    ≡ counts_after (Cleaner act came) c
unfolding is_served is_denied is_refused is_cleaner
cleaner_denied_counted c act came numbers e counted =
    subst (λ x. record {
      served = c.served;
      denied = c.denied;
      refused = c.refused;
      cleaner = c.cleaner + 1;
      rules = numbers;
    } ≡ counts_after (Cleaner act x) c) (sym e)
    (ap (λ (xs : List ℕ). record {
      served = c.served;
      denied = c.denied;
      refused = c.refused;
      cleaner = c.cleaner + 1;
      rules = xs;
    }) counted)

pub fault_counted : (c : Counts) (act : CleanerAct) (came : CleanerOutcome) (fault : CleanFault) → came
    ≡ outcome.Fault fault
    → record { served = c.served; denied = c.denied; refused = c.refused; cleaner = c.cleaner + 1; rules = c.rules }
    ≡ counts_after (Cleaner act came) c
unfolding is_served is_denied is_refused is_cleaner
fault_counted c act came fault e =
    subst (λ x. record {
      served = c.served;
      denied = c.denied;
      refused = c.refused;
      cleaner = c.cleaner + 1;
      rules = c.rules;
    } ≡ counts_after (Cleaner act x) c) (sym e)
    (ap (λ (xs : List ℕ). record {
      served = c.served;
      denied = c.denied;
      refused = c.refused;
      cleaner = c.cleaner + 1;
      rules = xs;
    }) (sym (none_counted rules c.rules)))

pub done_counted : (c : Counts) (act : CleanerAct) (came : CleanerOutcome) (number : ℕ) → came ≡ outcome.Done number
    → record { served = c.served; denied = c.denied; refused = c.refused; cleaner = c.cleaner + 1; rules = c.rules }
    ≡ counts_after (Cleaner act came) c
unfolding is_served is_denied is_refused is_cleaner
done_counted c act came number e =
    subst (λ x. record {
      served = c.served;
      denied = c.denied;
      refused = c.refused;
      cleaner = c.cleaner + 1;
      rules = c.rules;
    } ≡ counts_after (Cleaner act x) c) (sym e)
    (ap (λ (xs : List ℕ). record {
      served = c.served;
      denied = c.denied;
      refused = c.refused;
      cleaner = c.cleaner + 1;
      rules = xs;
    }) (sym (none_counted rules c.rules)))
