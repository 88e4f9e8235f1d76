-- A search from a key's start finds its frame before any free place, and a free place comes before the end: `not_found`
-- for `find`, `taken_run` for `free_place`, the `entered_` lemmas for Named. A new frame is named at the first free
-- place, and whoever was reached was reached over taken places only, so none of those on the way is the new one
-- (`reached-set`). A place that is taken is never freed but by a rebuild of all, since a gap would hide the frames
-- behind it; a `clear` that freed a place breaks this.
use Rattle.std.proofs.Common.{◌≡◌, ℕ, zero, suc, ◌+◌, ◌-◌, ◌<◌, ◌≤◌, List, [], ◌∷◌, length, Option, Some, None, IsSome}
use Rattle.std.proofs.Common.{refl, sym, ap, subst, ◌∙◌, inl, inr, arith}
use Rattle.std.proofs.Math.ListN.{get_or, set, length-set}
use Rattle.std.proofs.lemmas.List.{get_or-set_same, get_or-set_other}
use Rattle.std.proofs.slice.Lists.{any-default}
use Rattle.std.proofs.lemmas.Bool.{cases_lt, cases_eq}
use Rattle.lfs_cache.specs.Index.{frame_at, IsFree, IsReached, count_taken}

pub none_some : {X : Type 0} (o : Option X) → o ≡ None → IsSome o → ⊥
none_some {X} o e h = let bad : IsSome {T = X} None = subst IsSome e h in absurd (cc)

-- places that are all taken are counted
pub taken_run : (ps : List (Option ℕ)) (start n : ℕ) → start + n ≤ length ps
    → ((e : ℕ) → e < n → IsSome (frame_at ps (start + e))) → n ≤ count_taken ps
taken_run [] start n fits all = omega arith
taken_run (p ∷ ps) start zero fits all = omega arith
taken_run (None ∷ ps) zero (suc n) fits all = absurd (none_some {X = ℕ} None (λ i. None) (all 0 (omega arith)))
taken_run (Some f ∷ ps) zero (suc n) fits all =
    let rest = taken_run ps zero n (omega (arith, fits)) (λ e low. let to : zero + suc e
    ≡ suc (zero + e) = omega arith in subst (λ k. IsSome (frame_at (Some f ∷ ps) k)) to (all (suc e) (omega arith)))
    in omega arith
taken_run (None ∷ ps) (suc start) (suc n) fits all =
    taken_run ps start (suc n) (omega (arith, fits)) (λ e low. let to : suc start + e
    ≡ suc (start + e) = omega arith in subst (λ k. IsSome (frame_at (None ∷ ps) k)) to (all e low))
taken_run (Some f ∷ ps) (suc start) (suc n) fits all =
    let rest = taken_run ps start (suc n) (omega (arith, fits)) (λ e low. let to : suc start + e
    ≡ suc (start + e) = omega arith in subst (λ k. IsSome (frame_at (Some f ∷ ps) k)) to (all e low)) in omega arith

pub count-set : (ps : List (Option ℕ)) (q f : ℕ) → q < length ps → frame_at ps q ≡ None
    → count_taken (set ps q (Some f)) ≡ suc (count_taken ps)
count-set [] q f inside free = absurd (omega arith)
count-set (None ∷ ps) zero f inside free = refl
count-set (Some g ∷ ps) zero f inside free = absurd (cc)
count-set (None ∷ ps) (suc q) f inside free = count-set ps q f (omega arith) free
count-set (Some g ∷ ps) (suc q) f inside free = ap suc (count-set ps q f (omega arith) free)

-- a place that is taken leads where it led
pub reached-set : (ps : List (Option ℕ)) (q f g start : ℕ) → frame_at ps q ≡ None → IsReached ps start g
    → IsReached (set ps q (Some f)) start g
reached-set ps q f g start free h =
    let d = h.0 in
    let kept : (e : ℕ) → IsSome (frame_at ps (start + e)) → frame_at (set ps q (Some f)) (start + e)
    ≡ frame_at ps (start + e) =
    λ e here. get_or-set_other ps q (start + e) (Some f) None
    (λ same. none_some (frame_at ps (start + e)) (ap (frame_at ps) same ∙ free) here) in
    let at_end : IsSome (frame_at ps (start + d)) = subst IsSome (sym h.2) refl in (
      d,
      subst (λ k. start + d < k) (sym (length-set ps q (Some f))) h.1,
      kept d at_end ∙ h.2,
      λ e low. subst IsSome (sym (kept e (h.3 e low))) (h.3 e low),
    )

-- the new frame is reached
pub reached-new : (ps : List (Option ℕ)) (start d f : ℕ) → IsFree ps start d
    → IsReached (set ps (start + d) (Some f)) start f
reached-new ps start d f h = (
  d,
  subst (λ k. start + d < k) (sym (length-set ps (start + d) (Some f))) h.0,
  get_or-set_same ps (start + d) (Some f) None h.0,
  λ e low. subst IsSome (sym (get_or-set_other ps (start + d) (start + e) (Some f) None (λ same. omega arith)))
      (h.2 e low),
)

-- a key that a search up to a free place, or to the end, did not meet is at no frame
pub not_found : (ps : List (Option ℕ)) (start at f : ℕ) (P : ℕ → Type 0) → start ≤ at
    → ((p g : ℕ) → start ≤ p → p < at → frame_at ps p ≡ Some g → ¬ P g) → (at < length ps → frame_at ps at ≡ None)
    → IsReached ps start f → ¬ P f
not_found ps start at f P from missed stops h holds =
    let d = h.0 in
    elim (cases_lt (start + d) at) as (λ _. ⊥) [
      | inl low ↦ missed (start + d) f (omega arith) low h.2 holds
      | inr high ↦ elim (cases_eq (start + d) at) as (λ _. ⊥) [
        | inl same ↦ (let free : frame_at ps (start + d) ≡ None = ap (frame_at ps) same
            ∙ stops (subst (λ k. k < length ps) same h.1) in
            let bad : Some f ≡ None = sym h.2 ∙ free in absurd (cc))
        | inr other ↦ (let inner : at < length ps = let end = h.1 in omega arith in let same : start + (at - start)
            ≡ at = omega arith in
            none_some (frame_at ps at) (stops inner)
            (subst (λ k. IsSome (frame_at ps k)) same (h.3 (at - start) (omega arith))))
      ]
    ]

-- what an index shows
pub shown_at : {X : Type 0} (xs : List (Option X)) (i : ℕ) (x : Option X) → i < length xs → x ≡ get_or xs i x → x
    ≡ get_or xs i None
shown_at xs i x inside e = e ∙ sym (any-default xs i None x inside)

pub count_none : (ps : List (Option ℕ)) → ((p : ℕ) → frame_at ps p ≡ None) → count_taken ps ≡ 0
count_none [] none = refl
count_none (None ∷ ps) none = count_none ps (λ p. none (suc p))
count_none (Some f ∷ ps) none = let bad : Some f ≡ None = none 0 in absurd (cc)

-- the frame f is named at a free place, the first from s on
module _ (ps : List (Option ℕ)) (f s at : ℕ) (from : s ≤ at) (h : IsFree ps s (at - s)) where
  here : s + (at - s) ≡ at
  here = omega arith

  abbrev qs : List (Option ℕ)
  qs = set ps at (Some f)

  pub entered_free : frame_at ps at ≡ None
  entered_free = subst (λ k. frame_at ps k ≡ None) here h.1

  pub entered_inside : at < length ps
  entered_inside = subst (λ k. k < length ps) here h.0

  pub entered_new : IsReached qs s f
  entered_new = subst (λ k. IsReached (set ps k (Some f)) s f) here (reached-new ps s (at - s) f h)

  pub entered_old : (g start : ℕ) → IsReached ps start g → IsReached qs start g
  entered_old g start = reached-set ps at f g start entered_free

  pub entered_count : count_taken qs ≡ suc (count_taken ps)
  entered_count = count-set ps at f entered_inside entered_free

  pub entered_bound : (n : ℕ) → f < n → ((p g : ℕ) → frame_at ps p ≡ Some g → g < n) → (p g : ℕ) → frame_at qs p
      ≡ Some g → g < n
  entered_bound n below all p g is =
      elim (cases_eq p at) as (λ _. g < n) [
        | inl same ↦ (let e : Some f ≡ Some g = sym (ap (frame_at qs) same
            ∙ get_or-set_same ps at (Some f) None entered_inside) ∙ is in let same_frame : f
            ≡ g = cc in subst (λ k. k < n) same_frame below)
        | inr other ↦ all p g (sym (get_or-set_other ps at p (Some f) None other) ∙ is)
      ]
