-- What an audit tells as JSON has no float, and grows by its parts: `report_plain` for `text_of`, `plain_more` for
-- `push_plain`, `users_plain` for `tell_json`; `rules_more`, `rules_all` and `rule_none` for `rules_value` and
-- `push_rule`. Numbers and texts are no floats, so a list or an object has one only if an item of it has, and each item
-- is known to have none. The rules are told in their order, each beside its number, and one whose number is 0 adds
-- nothing; so the first k + 1 of them are those of the first k and perhaps one more.
use Rattle.std.proofs.Common.{◌≡◌, ℕ, ◌==◌, ◌+◌, ◌<◌, ◌≤◌, ◌||◌, Bool, true, false, List, [], ◌∷◌, ◌++◌, length, take, get_or}
use Rattle.std.proofs.Common.{map, refl, ap, sym, ◌∙◌, arith}
use Rattle.std.specs.List.{flat_map, zip}
use Rattle.std.proofs.lemmas.Bool.{eq-eqb}
use Rattle.std.proofs.lemmas.List.{append-nil, flat_map_more, take_all, take_more}
use Rattle.std.proofs.lemmas.Slice.Zip.{get_or-zip, length-zip}
use Rattle.serde_json.specs.Data.{Data}
use Rattle.serde_json.specs.View.{items_of, items_view, view}
use Rattle.serde_json.specs.Written.{has_float, items_have_float}
use Rattle.serde_json.specs.declared.value.Value.{Value}
use Rattle.lfs_types.specs.RuleCodes.{rules}
use Rattle.lfs_types.specs.declared.rule.Rule.{Rule}
use Rattle.lfs_model.specs.declared.counts.Counts.{Counts}
use Rattle.lfs_auditing.specs.Json.{ArePlain, IsPlain, report_data, rule_data, user_data, users_data}
use Rattle.lfs_auditing.specs.declared.json.Parts.{Parts}

-- ---- without floats

none_of : (x y : Bool) → x ≡ false → y ≡ false → (x || y) ≡ false
none_of true y e f = absurd (cc)
none_of false y e f = f

first_none : (x y : Bool) → (x || y) ≡ false → x ≡ false
first_none true y e = absurd (cc)
first_none false y e = refl

second_none : (x y : Bool) → (x || y) ≡ false → y ≡ false
second_none true y e = absurd (cc)
second_none false y e = e

pub plain_more : (vs : List Value) (v : Value) → ArePlain vs → IsPlain v → ArePlain (vs ++ v ∷ [])
plain_more [] v none plain = none_of (has_float (view v)) false plain refl
plain_more (w ∷ vs) v none plain =
    let rest = items_have_float (items_view vs) in
    none_of (has_float (view w)) (items_have_float (items_view (vs ++ v ∷ [])))
    (first_none (has_float (view w)) rest none)
    (plain_more vs v (second_none (has_float (view w)) rest none) plain)

rule_plain : (z : Rule × ℕ) (b : Bool) (ds : List Data) → (z.1 == 0) ≡ b → items_have_float (items_of ds) ≡ false
    → items_have_float (items_of (rule_data z ++ ds)) ≡ false
rule_plain z true ds e none = rw e none
rule_plain z false ds e none = rw e none

denied_plain : (zs : List (Rule × ℕ)) → items_have_float (items_of (flat_map rule_data zs)) ≡ false
denied_plain [] = refl
denied_plain (z ∷ zs) = rule_plain z (z.1 == 0) (flat_map rule_data zs) refl (denied_plain zs)

user_plain : (u : ℕ × Counts) → has_float (user_data u) ≡ false
user_plain (uid, c) = rw (denied_plain (zip rules c.rules)) refl

all_plain : (us : List (ℕ × Counts)) → items_have_float (items_of (map user_data us)) ≡ false
all_plain [] = refl
all_plain (u ∷ us) =
    none_of (has_float (user_data u)) (items_have_float (items_of (map user_data us))) (user_plain u) (all_plain us)

pub users_plain : (us : List (ℕ × Counts)) (v : Value) → view v ≡ users_data us → IsPlain v
users_plain us v is = ap has_float is ∙ all_plain us

pub report_plain : (legal : Bool) (entries : ℕ) (p : Parts) → IsPlain p.stopped → IsPlain p.users → IsPlain p.changed
    → IsPlain p.read → IsPlain p.who → has_float (report_data legal entries p) ≡ false
report_plain legal entries p stopped users changed read who = rw (stopped, users, changed, read, who) refl

-- ---- rules

pub rules_more : (done new : List Data) (all : List Rule) (numbers : List ℕ) (i number : ℕ) (d : Rule)
    → length numbers ≡ length all → i < length all → number ≡ get_or numbers i 0
    → done ≡ flat_map rule_data (take i (zip all numbers)) → new ≡ done ++ rule_data (get_or all i d, number)
    → new ≡ flat_map rule_data (take (i + 1) (zip all numbers))
rules_more done new all numbers i number d same lt is so_far grown =
    let long : i < length (zip all numbers) = omega (arith, length-zip all numbers, same) in
    let here : get_or (zip all numbers) i (d, 0)
    ≡ (get_or all i d, get_or numbers i 0) = get_or-zip all numbers i (d, 0) lt (omega (arith, same)) in
    let zs = zip all numbers in
    grown
    ∙ ap (λ n. done ++ rule_data (get_or all i d, n)) is
    ∙ ap (λ (xs : List Data). xs ++ rule_data (get_or all i d, get_or numbers i 0)) so_far
    ∙ ap (λ (z : Rule × ℕ). flat_map rule_data (take i zs) ++ rule_data z) (sym here)
    ∙ flat_map_more rule_data [] (take i zs) (get_or zs i (d, 0))
    ∙ ap (λ (z : List (Rule × ℕ)). flat_map rule_data z) (sym (take_more zs i (d, 0) long))

pub rules_all : (done : List Data) (all : List Rule) (numbers : List ℕ) (i : ℕ) → length all ≤ i
    → done ≡ flat_map rule_data (take i (zip all numbers)) → done ≡ flat_map rule_data (zip all numbers)
rules_all done all numbers i le so_far =
    so_far ∙ ap (λ xs. flat_map rule_data xs) (take_all i (zip all numbers) (omega (arith, length-zip all numbers)))

pub rule_none : (ds : List Data) (rule : Rule) (n : ℕ) → n ≡ 0 → ds ≡ ds ++ rule_data (rule, n)
rule_none ds rule n none =
    let empty : rule_data (rule, n) ≡ [] = rw (eq-eqb n 0 none) refl in
    sym (ap (λ (xs : List Data). ds ++ xs) empty ∙ append-nil ds)
