-- The index after one more frame is named, and after a key is put: `named_more` for `rebuild`, `index_put` for
-- `Index::put`, `index_none` for `Index::new`. While it's rebuilt the frames below one are found and no more places are
-- taken than these (AreIndexed), and each new one goes to a place that Places says is good. There are six places for a
-- frame, searches begin in the first four, and at most two are taken before a rebuild, so a search meets a free place
-- without turning at the end; other factors must leave that sum.
use Rattle.std.proofs.Common.{◌≡◌, ◌≢◌, ℕ, ◌+◌, ◌-◌, ◌*◌, ◌<◌, ◌≤◌, List, length, Option, Some, None, refl, sym, ap}
use Rattle.std.proofs.Common.{subst, ◌∙◌, inl, inr, arith}
use Rattle.std.proofs.Math.ListN.{set, length-set}
use Rattle.std.proofs.lemmas.List.{get_or-set_same, get_or-set_other}
use Rattle.std.proofs.lemmas.Bool.{cases_eq}
use Rattle.lfs_cache.specs.declared.key.Key.{Key}
use Rattle.lfs_cache.specs.Keys.{start_of}
use Rattle.lfs_cache.specs.Index.{key_at, frame_at, IsFree, IsReached, IsIndex, count_taken}
use Rattle.lfs_cache.proofs.Places.{count_none, entered_new, entered_old, entered_count, entered_bound}
use Rattle.lfs_cache.proofs.Cached.{none_not}

-- the places lead to the frames of the keys below `upto`, and so many are taken
pub record AreIndexed (keys : List (Option Key)) (places : List (Option ℕ)) (taken upto : ℕ) : Type 0 where
  pub sized : length places ≡ 6 * length keys
  pub inside : (p f : ℕ) → frame_at places p ≡ Some f → f < length keys
  pub found : (f : ℕ) (k : Key) → f < upto → key_at keys f ≡ Some k → IsReached places (start_of k (4 * length keys)) f
  pub counted : count_taken places ≡ taken
  pub room : taken ≤ upto

pub none_of : {X : Type 0} (o : Option X) → ((x : X) → o ≡ Some x → ⊥) → o ≡ None
none_of None h = refl
none_of (Some x) h = absurd (h x refl)

pub named_first : (keys : List (Option Key)) (ps : List (Option ℕ)) → length ps ≡ 6 * length keys
    → ((p : ℕ) → frame_at ps p ≡ None) → AreIndexed keys ps 0 0
named_first keys ps sized none = record {
  sized = sized;
  inside = λ p f is. absurd (none_not (frame_at ps p) f (none p) is);
  found = λ f k low. absurd (omega arith);
  counted = count_none ps none;
  room = omega arith;
}

pub named_none : (keys : List (Option Key)) (ps : List (Option ℕ)) (taken i : ℕ) → key_at keys i ≡ None
    → AreIndexed keys ps taken i → AreIndexed keys ps taken (i + 1)
named_none keys ps taken i none h = record {
  sized = h.sized;
  inside = h.inside;
  found = λ f k low is. elim (cases_eq f i) as (λ _. IsReached ps (start_of k (4 * length keys)) f) [
    | inl same ↦ absurd (none_not (key_at keys i) k none (subst (λ g. key_at keys g ≡ Some k) same is))
    | inr other ↦ h.found f k (omega arith) is
  ];
  counted = h.counted;
  room = let r = h.room in omega arith;
}

some_same : {X : Type 0} (o : Option X) (a b : X) → o ≡ Some a → o ≡ Some b → a ≡ b
some_same o a b e h = let same : Some a ≡ Some b = sym e ∙ h in cc

pub named_more : (keys : List (Option Key)) (ps : List (Option ℕ)) (taken i s at : ℕ) (k : Key) → i < length keys
    → key_at keys i ≡ Some k → s ≡ start_of k (4 * length keys) → s ≤ at → IsFree ps s (at - s)
    → AreIndexed keys ps taken i → AreIndexed keys (set ps at (Some i)) (taken + 1) (i + 1)
named_more keys ps taken i s at k below is starts from free h = record {
  sized = length-set ps at (Some i) ∙ h.sized;
  inside = entered_bound ps i s at from free (length keys) below h.inside;
  found = λ f k' low is'. elim (cases_eq f i) as
      (λ _. IsReached (set ps at (Some i)) (start_of k' (4 * length keys)) f) [
        | inl same ↦ (let key_same : k ≡ k' = some_same (key_at keys i) k k' is
            (subst (λ g. key_at keys g ≡ Some k') same is') in
            subst (λ g. IsReached (set ps at (Some i)) (start_of k' (4 * length keys)) g) (sym same)
            (subst (λ z. IsReached (set ps at (Some i)) z i) (starts ∙ ap (λ z. start_of z (4 * length keys)) key_same)
            (entered_new ps i s at from free)))
        | inr other ↦ entered_old ps i s at from free f (start_of k' (4 * length keys)) (h.found f k' (omega arith) is')
      ];
  counted = let e = entered_count ps i s at from free in let r = h.counted in omega arith;
  room = let r = h.room in omega arith;
}

-- a key at the frame f, which is named at a free place
pub index_put : (keys : List (Option Key)) (ps : List (Option ℕ)) (taken f s at : ℕ) (k : Key) → f < length keys
    → taken ≢ 2 * length keys → s ≡ start_of k (4 * length keys) → s ≤ at → IsFree ps s (at - s)
    → IsIndex keys ps taken → IsIndex (set keys f (Some k)) (set ps at (Some f)) (taken + 1)
index_put keys ps taken f s at k below room starts from free h =
    let n : length (set keys f (Some k)) ≡ length keys = length-set keys f (Some k) in
    record {
      some = let r = h.some in omega arith;
      bounded = let r = h.bounded in omega arith;
      sized = length-set ps at (Some f) ∙ (h.sized ∙ ap (λ z. 6 * z) (sym n));
      inside = λ p g is. subst (λ z. g < z) (sym n)
          (entered_bound ps f s at from free (length keys) below h.inside p g is);
      found = λ g k' is. subst (λ z. IsReached (set ps at (Some f)) (start_of k' (4 * z)) g) (sym n)
          (elim (cases_eq g f) as (λ _. IsReached (set ps at (Some f)) (start_of k' (4 * length keys)) g) [
            | inl same ↦ (let key_same : k ≡ k' = some_same (key_at (set keys f (Some k)) f) k k'
                (get_or-set_same keys f (Some k) None below)
                (subst (λ z. key_at (set keys f (Some k)) z ≡ Some k') same is)
                in
                subst (λ z. IsReached (set ps at (Some f)) (start_of k' (4 * length keys)) z) (sym same)
                (subst (λ z. IsReached (set ps at (Some f)) z f) (starts
                ∙ ap (λ z. start_of z (4 * length keys)) key_same)
                (entered_new ps f s at from free)))
            | inr other ↦ entered_old ps f s at from free g (start_of k' (4 * length keys))
                (h.found g k' (sym (get_or-set_other keys f g (Some k) None other) ∙ is))
          ]);
      counted = let e = entered_count ps f s at from free in let r = h.counted in omega arith;
      room = let r = h.room in omega arith;
    }

-- no key at any frame
pub index_none : (keys : List (Option Key)) (ps : List (Option ℕ)) → 0 < length keys → length keys ≤ 1024 → length ps
    ≡ 6 * length keys → ((f : ℕ) → key_at keys f ≡ None) → ((p : ℕ) → frame_at ps p ≡ None) → IsIndex keys ps 0
index_none keys ps some bounded sized none free = record {
  some = some;
  bounded = bounded;
  sized = sized;
  inside = λ p f is. absurd (none_not (frame_at ps p) f (free p) is);
  found = λ f k is. absurd (none_not (key_at keys f) k (none f) is);
  counted = count_none ps free;
  room = omega arith;
}
