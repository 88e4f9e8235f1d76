-- When two places are one: `place_is`, `same_place-true`, `same_place-self` and `same_place-apart`, for the index by
-- places. A place is a directory's node and a name, so the test compares both, the name by its bytes, and is true of
-- equal places alone.
use Rattle.std.proofs.Common.{◌≡◌, ◌≢◌, ◌⊎◌, ℕ, List, true, false, refl, sym, ap, subst, ◌∙◌, inl, inr, ⊎_elim}
use Rattle.std.specs.Prelude.{◌==◌, bytes_eq, Result, Ok, Err, IsOk, OnOk}
use Rattle.std.proofs.lemmas.Bool.{and_parts, and_from, eqb-true, eq-eqb, cases_Bool, false_from_ne_true}
use Rattle.std.proofs.lemmas.Slice.Eq.{bytes_eq-Decides}
use Rattle.lfs_nodes.specs.declared.place.Place.{Place}
use Rattle.lfs_nodes.specs.Maps.{same_place}

pub place_is : (a b : Place) → a.parent ≡ b.parent → a.name ≡ b.name → a ≡ b
place_is a b p n = ap (λ (x : ℕ). record a { parent = x }) p ∙ ap (λ (x : List ℕ). record b { name = x }) n

pub same_place-true : (a b : Place) → same_place a b ≡ true → a ≡ b
same_place-true a b h =
    let two = and_parts (a.parent == b.parent) (bytes_eq a.name b.name) h in
    place_is a b (eqb-true a.parent b.parent two.0) ((bytes_eq-Decides a.name b.name).0 two.1)

pub same_place-self : (a : Place) → same_place a a ≡ true
same_place-self a = and_from _ _ (eq-eqb a.parent a.parent refl) ((bytes_eq-Decides a.name a.name).1 refl)

pub same_place-apart : (a b : Place) → b ≢ a → same_place a b ≡ false
same_place-apart a b h = false_from_ne_true _ (λ t. h (sym (same_place-true a b t)))

pub cases_place : (a b : Place) → (a ≡ b) ⊎ (a ≢ b)
cases_place a b = ⊎_elim
    (λ t. inl (same_place-true a b t))
    (λ f. inr (λ e. let t : same_place a b ≡ true = subst (λ x. same_place a x ≡ true) e (same_place-self a) in
    absurd (cc)))
    (cases_Bool (same_place a b))

-- what holds where there is a value
pub on_ok : {T E P : Type 0} (r : Result T E) → IsOk r → OnOk r P → P
on_ok (Ok x) is h = h
on_ok (Err e) is h = absurd (cc)
