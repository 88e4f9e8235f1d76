-- A record that waits is replaced: `replaces`, `found_place` and `no_place` for `replace_record`, `each_replaced` for
-- what holds of all. The place is the first with this number, so the record there is found under the number after it
-- was put; for another number neither the old nor the new record of that place is looked for, so the search finds what
-- it found. The list of numbers is the same, and where no place is found no record of the number waits.
use Rattle.std.proofs.Common.{◌≡◌, ℕ, suc, ◌<◌, ◌≤◌, List, [], ◌∷◌, length, Option, None, Some, Bool, true, cond}
use Rattle.std.proofs.Common.{get_or, refl, sym, ap, ◌∙◌, inl, inr, arith}
use Rattle.std.specs.Prelude.{◌==◌, All, nat_lt, find}
use Rattle.std.specs.List.{position_or_len}
use Rattle.std.proofs.lemmas.Bool.{cases_Bool, cases_lt, eqb-true, eq-eqb, ne_eqb, lt-ltb, le-ltb, cond-true}
use Rattle.std.proofs.lemmas.Bool.{cond-false}
use Rattle.std.proofs.lemmas.Option.{none-some, same_Some}
use Rattle.std.proofs.lemmas.List.Folds.{find-set, find_past}
use Rattle.std.proofs.lemmas.List.Elements.{All-set}
use Rattle.std.proofs.Math.Seq.{map-set_same}
use Rattle.lfs_inodes.specs.declared.inode.Inode.{Inode}
use Rattle.lfs_parts.specs.Waiting.{Replaces, replaced}

-- the first element that passes does
passes : (p : Inode → Bool) (xs : List Inode) (d : Inode) → position_or_len p xs < length xs
    → p (get_or xs (position_or_len p xs) d) ≡ true
passes p [] d low = absurd (omega arith)
passes p (x ∷ xs) d low =
    elim (cases_Bool (p x)) [
      | inl pass ↦ rw pass pass
      | inr fail ↦
          let step : position_or_len p (x ∷ xs) ≡ suc (position_or_len p xs) = rw fail (omega arith) in
          ap (λ i. p (get_or (x ∷ xs) i d)) step ∙ passes p xs d (omega arith)
    ]

-- where none passes, none is found
pub none_passes : (p : Inode → Bool) (xs : List Inode) → length xs ≤ position_or_len p xs → find p xs ≡ None
none_passes p [] high = refl
none_passes p (x ∷ xs) high =
    elim (cases_Bool (p x)) [
      | inl pass ↦ let first : position_or_len p (x ∷ xs) ≡ 0 = rw pass refl in absurd (omega arith)
      | inr fail ↦
          let step : position_or_len p (x ∷ xs) ≡ suc (position_or_len p xs) = rw fail (omega arith) in
          cond-false _ _ _ fail ∙ none_passes p xs (omega arith)
    ]

pub replaces : (xs : List Inode) (v : Inode) → position_or_len (λ (w : Inode). w.number == v.number) xs < length xs
    → Replaces xs (replaced xs v) v
replaces xs v low = record {
  here = find-set (λ (w : Inode). w.number == v.number) xs
      (position_or_len (λ (w : Inode). w.number == v.number) xs) v refl low (eq-eqb v.number v.number refl);
  others = λ number other.
      let i = position_or_len (λ (w : Inode). w.number == v.number) xs in
      let same : (get_or xs i v).number ≡ v.number =
      eqb-true _ _ (passes (λ (w : Inode). w.number == v.number) xs v low) in
      find_past (λ (w : Inode). w.number == number) xs i v v
      (ne_eqb _ _ (λ e. other (sym e ∙ same))) (ne_eqb _ _ (λ e. other (sym e)));
  numbers =
      let i = position_or_len (λ (w : Inode). w.number == v.number) xs in
      let same : (get_or xs i v).number ≡ v.number =
      eqb-true _ _ (passes (λ (w : Inode). w.number == v.number) xs v low) in
      map-set_same (λ (w : Inode). w.number) xs i v v (sym same);
}

pub each_replaced : (P : Inode → Type 0) (xs : List Inode) (v : Inode) → P v → All P xs → All P (replaced xs v)
each_replaced P xs v here each = All-set P xs (position_or_len (λ (w : Inode). w.number == v.number) xs) v here each

-- what a search answers
pub found_place : (p : Inode → Bool) (xs : List Inode) (r : Option ℕ) (i : ℕ)
    → r ≡ cond (nat_lt (position_or_len p xs) (length xs)) (Some (position_or_len p xs)) None → r ≡ Some i
    → (i ≡ position_or_len p xs) × (position_or_len p xs < length xs)
found_place p xs r i is some =
    elim (cases_lt (position_or_len p xs) (length xs)) [
      | inl low ↦ (same_Some i _ (sym some ∙ is ∙ cond-true _ _ _ (lt-ltb _ _ low)), low)
      | inr high ↦ absurd (none-some i (sym (cond-false _ _ _ (le-ltb _ _ high)) ∙ sym is ∙ some))
    ]

pub no_place : (p : Inode → Bool) (xs : List Inode) (r : Option ℕ)
    → r ≡ cond (nat_lt (position_or_len p xs) (length xs)) (Some (position_or_len p xs)) None → r ≡ None → find p xs
    ≡ None
no_place p xs r is none =
    elim (cases_lt (position_or_len p xs) (length xs)) [
      | inl low ↦ absurd (none-some _ (sym none ∙ is ∙ cond-true _ _ _ (lt-ltb _ _ low)))
      | inr high ↦ none_passes p xs high
    ]
