-- What is found under each name, and that entries stay entries, when one is added, taken away or given another number:
-- `number_in-without_other`, `number_in-renumbered`, `AreEntries-added`, `AreEntries-without`, for the writing of
-- blocks here and the listings of `lfs_calls` and `lfs_trees`. By induction on the list, where each entry has the name
-- or hasn't (`has_name`); a name has one entry at most (`AreEntries`), so what is found first is all there is of it
-- (`number_in-Contains`). With two entries of one name, taking one away would show the other.
use Rattle.std.proofs.Common.{◌≡◌, ◌≢◌, ℕ, zero, suc, ◌+◌, ◌^◌, ◌<◌, ◌≤◌, Bool, true, false, not, List, [], ◌∷◌, ◌++◌}
use Rattle.std.proofs.Common.{length, get_or, None, Some, refl, sym, ap, ◌∙◌, subst, ⊎_elim, arith}
use Rattle.std.specs.Prelude.{All, AllPairs, Contains, IsSome, bytes_eq, filter, option_map}
use Rattle.std.proofs.lemmas.Bool.{cond-true, cond-false, cases_Bool, false_from_ne_true, both_ways}
use Rattle.std.proofs.lemmas.List.Elements.{All-nil, All-cons}
use Rattle.std.proofs.lemmas.Slice.Eq.{bytes_eq-Decides}
use Rattle.lfs_dirs.specs.Directory.{Entry, used_of, has_name, number_in, renumbered, with_number, without, IsEntry}
use Rattle.lfs_dirs.specs.Directory.{AreEntries}

-- ---- a look-up

pub has_name-true : (name : List ℕ) (e : Entry) → has_name name e ≡ true → e.1 ≡ name
has_name-true name e h = (bytes_eq-Decides e.1 name).0 h

pub has_name-same : (name : List ℕ) (e : Entry) → e.1 ≡ name → has_name name e ≡ true
has_name-same name e h = (bytes_eq-Decides e.1 name).1 h

pub has_name-false : (name : List ℕ) (e : Entry) → has_name name e ≡ false → e.1 ≢ name
has_name-false name e h same = both_ways _ h (has_name-same name e same)

pub has_name-other : (name : List ℕ) (e : Entry) → e.1 ≢ name → has_name name e ≡ false
has_name-other name e h = false_from_ne_true _ (λ t. h (has_name-true name e t))

pub number_in-nil : (name : List ℕ) → number_in name [] ≡ None
unfolding number_in
number_in-nil name = refl

pub number_in-here : (name : List ℕ) (e : Entry) (es : List Entry) → has_name name e ≡ true → number_in name (e ∷ es)
    ≡ Some e.0
unfolding number_in
number_in-here name e es h = ap (option_map (λ (f : Entry). f.0)) (cond-true _ _ _ h)

pub number_in-later : (name : List ℕ) (e : Entry) (es : List Entry) → has_name name e ≡ false → number_in name (e ∷ es)
    ≡ number_in name es
unfolding number_in
number_in-later name e es h = ap (option_map (λ (f : Entry). f.0)) (cond-false _ _ _ h)

-- a name that isn't in a list isn't its first's, nor in the rest
pub number_in-none : (name : List ℕ) (e : Entry) (es : List Entry)
    → number_in name (e ∷ es) ≡ None → (has_name name e ≡ false) × (number_in name es ≡ None)
number_in-none name e es h =
    let other : has_name name e ≡ false =
    false_from_ne_true _ (λ t. let here = number_in-here name e es t in absurd (cc)) in
    (other, sym (number_in-later name e es other) ∙ h)

-- the first entry of a name, where the name isn't in the list before
pub number_in-append : (name : List ℕ) (es fs : List Entry) → number_in name es ≡ None → number_in name (es ++ fs)
    ≡ number_in name fs
number_in-append name [] fs h = refl
number_in-append name (e ∷ es) fs h =
    let none = number_in-none name e es h in
    number_in-later name e (es ++ fs) none.0 ∙ number_in-append name es fs none.1

-- where an entry stays at the front, what is found behind it is what counts
pub number_in-after : (name : List ℕ) (e : Entry) (es fs : List Entry) → number_in name es ≡ number_in name fs
    → number_in name (e ∷ es) ≡ number_in name (e ∷ fs)
number_in-after name e es fs same =
    ⊎_elim
    (λ t. number_in-here name e es t ∙ sym (number_in-here name e fs t))
    (λ t. number_in-later name e es t ∙ same ∙ sym (number_in-later name e fs t))
    (cases_Bool (has_name name e))

-- the other names are found as before
pub number_in-added_other : (other : List ℕ) (e : Entry) (es : List Entry) → e.1 ≢ other
    → number_in other (es ++ e ∷ []) ≡ number_in other es
number_in-added_other other e [] h = number_in-later other e [] (has_name-other other e h)
number_in-added_other other e (f ∷ es) h =
    number_in-after other f (es ++ e ∷ []) es (number_in-added_other other e es h)

-- what isn't in a list isn't in a part of it
pub number_in-filter : (keeps : Entry → Bool) (name : List ℕ) (es : List Entry) → number_in name es ≡ None
    → number_in name (filter keeps es) ≡ None
number_in-filter keeps name [] h = h
number_in-filter keeps name (e ∷ es) h =
    let none = number_in-none name e es h in
    let rest = number_in-filter keeps name es none.1 in
    ⊎_elim
    (λ t. ap (number_in name) (cond-true _ _ _ t) ∙ number_in-later name e (filter keeps es) none.0 ∙ rest)
    (λ t. ap (number_in name) (cond-false _ _ _ t) ∙ rest)
    (cases_Bool (keeps e))

-- what isn't in two lists together is in neither
pub number_in-both : (name : List ℕ) (es fs : List Entry) → number_in name (es ++ fs) ≡ None
    → (number_in name es ≡ None) × (number_in name fs ≡ None)
number_in-both name [] fs h = (number_in-nil name, h)
number_in-both name (e ∷ es) fs h =
    let none = number_in-none name e (es ++ fs) h in
    let both = number_in-both name es fs none.1 in
    (number_in-later name e es none.0 ∙ both.0, both.1)

-- ---- a name's entry is taken away

pub without-nil : (name : List ℕ) → without name [] ≡ []
unfolding without
without-nil name = refl

pub without-here : (name : List ℕ) (e : Entry) (es : List Entry) → has_name name e ≡ true → without name (e ∷ es)
    ≡ without name es
unfolding without
without-here name e es h = cond-false _ _ _ (ap not h)

pub without-later : (name : List ℕ) (e : Entry) (es : List Entry) → has_name name e ≡ false → without name (e ∷ es) ≡ e
    ∷ without name es
unfolding without
without-later name e es h = cond-true _ _ _ (ap not h)

-- nothing is taken away where the name isn't in the list
pub without-absent : (name : List ℕ) (es : List Entry) → number_in name es ≡ None → without name es ≡ es
without-absent name [] h = without-nil name
without-absent name (e ∷ es) h =
    let none = number_in-none name e es h in
    without-later name e es none.0 ∙ ap (λ fs. e ∷ fs) (without-absent name es none.1)

-- the name isn't in what is left
pub number_in-without : (name : List ℕ) (es : List Entry) → number_in name (without name es) ≡ None
number_in-without name [] = ap (number_in name) (without-nil name) ∙ number_in-nil name
number_in-without name (e ∷ es) =
    ⊎_elim
    (λ t. ap (number_in name) (without-here name e es t) ∙ number_in-without name es)
    (λ t. ap (number_in name) (without-later name e es t) ∙ number_in-later name e (without name es) t
    ∙ number_in-without name es)
    (cases_Bool (has_name name e))

-- the other names are found as before
pub number_in-without_other : (name other : List ℕ) (es : List Entry) → name ≢ other → number_in other (without name es)
    ≡ number_in other es
number_in-without_other name other [] h = ap (number_in other) (without-nil name)
number_in-without_other name other (e ∷ es) h =
    let rest = number_in-without_other name other es h in
    ⊎_elim
    (λ t.
    let unlike : e.1 ≢ other = λ same. h (sym (has_name-true name e t) ∙ same) in
    ap (number_in other) (without-here name e es t) ∙ rest
    ∙ sym (number_in-later other e es (has_name-other other e unlike)))
    (λ t. ap (number_in other) (without-later name e es t) ∙ number_in-after other e (without name es) es rest)
    (cases_Bool (has_name name e))

-- ---- a name's entry gets another number

pub renumbered-nil : (name : List ℕ) (number : ℕ) → renumbered name number [] ≡ []
unfolding renumbered
renumbered-nil name number = refl

pub renumbered-cons : (name : List ℕ) (number : ℕ) (e : Entry) (es : List Entry) → renumbered name number (e ∷ es)
    ≡ with_number name number e ∷ renumbered name number es
unfolding renumbered
renumbered-cons name number e es = refl

-- it keeps its name
pub with_number-name : (name : List ℕ) (number : ℕ) (e : Entry) → (with_number name number e).1 ≡ e.1
with_number-name name number e = ⊎_elim
    (λ t. ap (λ (f : Entry). f.1) (cond-true (has_name name e) (number, e.1) e t))
    (λ t. ap (λ (f : Entry). f.1) (cond-false (has_name name e) (number, e.1) e t))
    (cases_Bool (has_name name e))

pub has_name-renumbered : (name other : List ℕ) (number : ℕ) (e : Entry) → has_name other (with_number name number e)
    ≡ has_name other e
has_name-renumbered name other number e = ap (λ bs. bytes_eq bs other) (with_number-name name number e)

-- nothing else is found otherwise
pub number_in-renumbered_other : (name other : List ℕ) (number : ℕ) (es : List Entry) → name ≢ other
    → number_in other (renumbered name number es) ≡ number_in other es
number_in-renumbered_other name other number [] h = ap (number_in other) (renumbered-nil name number)
number_in-renumbered_other name other number (e ∷ es) h =
    let rest = number_in-renumbered_other name other number es h in
    ap (number_in other) (renumbered-cons name number e es) ∙
    ⊎_elim
    (λ t.
    let unlike : has_name name e ≡ false = has_name-other name e (λ same. h (sym same ∙ has_name-true other e t)) in
    let kept : with_number name number e ≡ e = cond-false (has_name name e) (number, e.1) e unlike in
    ap (λ f. number_in other (f ∷ renumbered name number es)) kept
    ∙ number_in-here other e (renumbered name number es) t ∙ sym (number_in-here other e es t))
    (λ t.
    number_in-later other (with_number name number e) (renumbered name number es)
    (has_name-renumbered name other number e ∙ t)
    ∙ rest ∙ sym (number_in-later other e es t))
    (cases_Bool (has_name other e))

-- the name is found with its other number, if it was found
pub number_in-renumbered : (name : List ℕ) (number : ℕ) (es : List Entry) → IsSome (number_in name es)
    → number_in name (renumbered name number es) ≡ Some number
number_in-renumbered name number [] h = let none = subst IsSome (number_in-nil name) h in absurd (cc)
number_in-renumbered name number (e ∷ es) h =
    ap (number_in name) (renumbered-cons name number e es) ∙
    ⊎_elim
    (λ t.
    let given : with_number name number e ≡ (number, e.1) = cond-true (has_name name e) (number, e.1) e t in
    number_in-here name (with_number name number e) (renumbered name number es) (has_name-renumbered name name number e
    ∙ t)
    ∙ ap (λ (f : Entry). Some f.0) given)
    (λ t.
    number_in-later name (with_number name number e) (renumbered name number es) (has_name-renumbered name name number e
    ∙ t)
    ∙ number_in-renumbered name number es (subst IsSome (number_in-later name e es t) h))
    (cases_Bool (has_name name e))

-- and isn't, if it wasn't
pub number_in-renumbered_none : (name other : List ℕ) (number : ℕ) (es : List Entry) → number_in other es ≡ None
    → number_in other (renumbered name number es) ≡ None
number_in-renumbered_none name other number [] h = ap (number_in other) (renumbered-nil name number) ∙ h
number_in-renumbered_none name other number (e ∷ es) h =
    let none = number_in-none other e es h in
    ap (number_in other) (renumbered-cons name number e es)
    ∙ number_in-later other (with_number name number e) (renumbered name number es)
    (has_name-renumbered name other number e ∙ none.0)
    ∙ number_in-renumbered_none name other number es none.1

-- entries take the room that they took
pub used_of-renumbered : (name : List ℕ) (number : ℕ) (es : List Entry) → used_of (renumbered name number es)
    ≡ used_of es
used_of-renumbered name number [] = ap used_of (renumbered-nil name number)
used_of-renumbered name number (e ∷ es) =
    let rest = used_of-renumbered name number es in
    let first = ap used_of (renumbered-cons name number e es) in
    let long = ap (λ (bs : List ℕ). length bs) (with_number-name name number e) in
    omega (arith, rest, first, long)

pub renumbered-append : (name : List ℕ) (number : ℕ) (es fs : List Entry) → renumbered name number (es ++ fs)
    ≡ renumbered name number es ++ renumbered name number fs
renumbered-append name number [] fs = ap (λ gs. gs ++ renumbered name number fs) (sym (renumbered-nil name number))
renumbered-append name number (e ∷ es) fs =
    renumbered-cons name number e (es ++ fs)
    ∙ ap (λ gs. with_number name number e ∷ gs) (renumbered-append name number es fs)
    ∙ ap (λ gs. gs ++ renumbered name number fs) (sym (renumbered-cons name number e es))

-- where the name isn't, nothing changes
pub renumbered-absent : (name : List ℕ) (number : ℕ) (es : List Entry) → number_in name es ≡ None
    → renumbered name number es ≡ es
renumbered-absent name number [] h = renumbered-nil name number
renumbered-absent name number (e ∷ es) h =
    let none = number_in-none name e es h in
    renumbered-cons name number e es
    ∙ ap (λ f. f ∷ renumbered name number es) (cond-false (has_name name e) (number, e.1) e none.0)
    ∙ ap (λ gs. e ∷ gs) (renumbered-absent name number es none.1)

-- ---- entries stay entries

with_number-entry : (name : List ℕ) (number : ℕ) (e : Entry) → 0 < number → number < 2 ^ 32 → IsEntry e
    → IsEntry (with_number name number e)
with_number-entry name number e above fits h = ⊎_elim
    (λ t. subst IsEntry (sym (cond-true (has_name name e) (number, e.1) e t))
    (record { above = above; fits = fits; named = h.named }))
    (λ t. subst IsEntry (sym (cond-false (has_name name e) (number, e.1) e t)) h)
    (cases_Bool (has_name name e))

pub AreEntries-renumbered : (name : List ℕ) (number : ℕ) (es : List Entry) → 0 < number → number < 2 ^ 32
    → AreEntries es → AreEntries (renumbered name number es)
AreEntries-renumbered name number [] above fits a = subst AreEntries (sym (renumbered-nil name number)) tt
AreEntries-renumbered name number (e ∷ es) above fits a =
    subst AreEntries (sym (renumbered-cons name number e es)) (
      with_number-entry name number e above fits a.0,
      subst (λ bs. number_in bs (renumbered name number es) ≡ None) (sym (with_number-name name number e))
          (number_in-renumbered_none name e.1 number es a.1),
      AreEntries-renumbered name number es above fits a.2,
    )

pub AreEntries-added : (es : List Entry) (e : Entry) → AreEntries es → IsEntry e → number_in e.1 es ≡ None
    → AreEntries (es ++ e ∷ [])
AreEntries-added [] e a h none = (h, number_in-nil e.1, tt)
AreEntries-added (f ∷ es) e a h none =
    let apart = number_in-none e.1 f es none in
    let unlike : e.1 ≢ f.1 = λ same. has_name-false e.1 f apart.0 (sym same) in
    (a.0, number_in-added_other f.1 e es unlike ∙ a.1, AreEntries-added es e a.2 h apart.1)

pub AreEntries-filter : (keeps : Entry → Bool) (es : List Entry) → AreEntries es → AreEntries (filter keeps es)
AreEntries-filter keeps [] a = tt
AreEntries-filter keeps (e ∷ es) a =
    let rest = AreEntries-filter keeps es a.2 in
    ⊎_elim
    (λ t. subst AreEntries (sym (cond-true _ _ _ t)) (a.0, number_in-filter keeps e.1 es a.1, rest))
    (λ t. subst AreEntries (sym (cond-false _ _ _ t)) rest)
    (cases_Bool (keeps e))

pub AreEntries-without : (name : List ℕ) (es : List Entry) → AreEntries es → AreEntries (without name es)
unfolding without
AreEntries-without name es a = AreEntries-filter (λ e. not (has_name name e)) es a

-- an entry of a list, and those before it
pub AreEntries-middle : (es : List Entry) (e : Entry) (fs : List Entry) → AreEntries (es ++ e ∷ fs) → IsEntry e
    × (number_in e.1 es ≡ None)
AreEntries-middle [] e fs a = (a.0, number_in-nil e.1)
AreEntries-middle (f ∷ es) e fs a =
    let rest = AreEntries-middle es e fs a.2 in
    let later = number_in-both f.1 es (e ∷ fs) a.1 in
    let unlike : f.1 ≢ e.1 = λ same. has_name-false f.1 e (number_in-none f.1 e fs later.1).0 (sym same) in
    (rest.0, number_in-later e.1 f es (has_name-other e.1 f unlike) ∙ rest.1)

-- ---- room

-- what is left takes no more room
pub used_of-filter : (keeps : Entry → Bool) (es : List Entry) → used_of (filter keeps es) ≤ used_of es
used_of-filter keeps [] = omega arith
used_of-filter keeps (e ∷ es) =
    let rest = used_of-filter keeps es in
    ⊎_elim
    (λ t. let kept = ap used_of (cond-true (keeps e) (e ∷ filter keeps es) (filter keeps es) t) in
    omega (arith, kept, rest))
    (λ t. let gone = ap used_of (cond-false (keeps e) (e ∷ filter keeps es) (filter keeps es) t) in
    omega (arith, gone, rest))
    (cases_Bool (keeps e))

pub used_of-without_le : (name : List ℕ) (es : List Entry) → used_of (without name es) ≤ used_of es
unfolding without
used_of-without_le name es = used_of-filter (λ (e : Entry). not (has_name name e)) es

-- where an entry with a name of at most 255 bytes doesn't fit, there is one already
pub entries-where_full : (es : List Entry) (length_of_name : ℕ) → length_of_name ≤ 255 → 512 < used_of es + 5
    + length_of_name → 0 < length es
entries-where_full [] n h full = absurd (omega arith)
entries-where_full (e ∷ es) n h full = omega arith

-- ---- membership

-- what is found is an entry
pub Contains-number_in : (name : List ℕ) (number : ℕ) (es : List Entry) → number_in name es ≡ Some number
    → Contains es (number, name)
Contains-number_in name number [] h = let none = number_in-nil name in absurd (cc)
Contains-number_in name number (e ∷ es) h =
    ⊎_elim
    (λ t.
    let same_number : e.0 ≡ number = (let here = number_in-here name e es t in cc) in
    let same : e ≡ (number, name) = (ap (λ n. (n, e.1)) same_number ∙ ap (λ bs. (number, bs)) (has_name-true name e t))
    in
    (0, omega arith, same))
    (λ t.
    let later = Contains-number_in name number es (sym (number_in-later name e es t) ∙ h) in
    (suc later.0, omega arith, later.2))
    (cases_Bool (has_name name e))

number_in-at : (k : ℕ) (e : Entry) (es : List Entry) → AreEntries es → k < length es → get_or es k e ≡ e
    → number_in e.1 es ≡ Some e.0
number_in-at k e [] a h at = absurd (omega arith)
number_in-at zero e (f ∷ es) a h at =
    number_in-here e.1 f es (has_name-same e.1 f (ap (λ (g : Entry). g.1) at)) ∙ ap (λ (g : Entry). Some g.0) at
number_in-at (suc k) e (f ∷ es) a h at =
    let later = number_in-at k e es a.2 (omega arith) at in
    let unlike : f.1 ≢ e.1 = λ same. let gone = subst (λ n. number_in n es ≡ None) same a.1 in absurd (cc) in
    number_in-later e.1 f es (has_name-other e.1 f unlike) ∙ later

-- an entry is found by its name
pub number_in-Contains : (e : Entry) (es : List Entry) → AreEntries es → Contains es e → number_in e.1 es ≡ Some e.0
number_in-Contains e es a c = number_in-at c.0 e es a c.1 c.2

-- a name that isn't found is no entry's
pub number_in-absent : (name : List ℕ) (es : List Entry) (k : ℕ) (d : Entry) → number_in name es ≡ None → k < length es
    → (get_or es k d).1 ≢ name
number_in-absent name [] k d h lt = absurd (omega arith)
number_in-absent name (e ∷ es) zero d h lt = has_name-false name e (number_in-none name e es h).0
number_in-absent name (e ∷ es) (suc k) d h lt =
    number_in-absent name es k d (number_in-none name e es h).1 (omega arith)

-- each entry has a number above 0 and a name
pub AreEntries-each : (es : List Entry) → AreEntries es → All IsEntry es
AreEntries-each [] a = All-nil IsEntry
AreEntries-each (e ∷ es) a = All-cons IsEntry e es a.0 (AreEntries-each es a.2)

apart : (es : List Entry) (i j : ℕ) (d : Entry) → AreEntries es → i < j → j < length es
    → (get_or es i d).1 ≢ (get_or es j d).1
apart [] i j d a below lt = absurd (omega arith)
apart (e ∷ es) i zero d a below lt = absurd (omega arith)
apart (e ∷ es) zero (suc j) d a below lt = λ same. number_in-absent e.1 es j d a.1 (omega arith) (sym same)
apart (e ∷ es) (suc i) (suc j) d a below lt = apart es i j d a.2 (omega arith) (omega arith)

-- no two entries have one name
pub AreEntries-distinct : (es : List Entry) → AreEntries es → AllPairs (λ (e f : Entry). e.1 ≢ f.1) es
AreEntries-distinct es a = λ i j d below lt. apart es i j d a below lt
