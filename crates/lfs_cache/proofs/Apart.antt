-- No key is held twice: `all_apart` for FormedLemmas, which gives IsContents, and `locked_apart` for `Cache::locked`.
-- Each frame stands in one list, once (AreKept counts them), and no two frames have one key (`apart` of AreHeld), so
-- the keys of lists behind one another differ, by induction on the lists. All that is proved of a block which is dirty
-- and not clean rests on this; a key put at a second frame before the first is cleared would break it.
use Rattle.std.proofs.Common.{◌≡◌, ◌≢◌, ℕ, suc, ◌+◌, ◌<◌, ◌≤◌, true, false, cond, ◌==◌, List, [], ◌∷◌, ◌++◌, Option}
use Rattle.std.proofs.Common.{Some, IsSome, refl, sym, ap, subst, ◌∙◌, inl, inr, arith}
use Rattle.std.specs.Prelude.{map}
use Rattle.std.proofs.Math.Nat.{eq-zero-or-pos}
use Rattle.std.proofs.lemmas.Bool.Decides.{eqb_tells, nat_tests}
use Rattle.lfs_recency.specs.FrameLists.{FrameLists, frame_count, times, times_in_all}
use Rattle.lfs_cache.specs.declared.key.Key.{Key}
use Rattle.lfs_cache.specs.Keys.{same_key}
use Rattle.lfs_cache.specs.Index.{key_at}
use Rattle.lfs_cache.specs.Frames.{name_or}
use Rattle.lfs_cache.specs.Contents.{keys_of, Lacks, AreApart}
use Rattle.lfs_cache.specs.Held.{name_at, entry_at, held_by, AreHeld}
use Rattle.lfs_cache.proofs.Entries.{same_is, same_cases}
use Rattle.lfs_cache.proofs.Cached.{some_is, in_range, once}

pub times_head : (x : ℕ) (xs : List ℕ) → times x (x ∷ xs) ≡ suc (times x xs)
times_head x xs = let on : (x == x) ≡ true = grind (arith, nat_tests) in
    ap (λ b. cond b (suc (times x xs)) (times x xs)) on

pub times_tail : (g x : ℕ) (xs : List ℕ) → times g xs ≤ times g (x ∷ xs)
times_tail g x xs =
    elim (eqb_tells x g) as (λ _. times g xs ≤ times g (x ∷ xs)) [
      | inl t ↦ subst (λ b. times g xs ≤ cond b (suc (times g xs)) (times g xs)) (sym t.0) (omega arith)
      | inr t ↦ subst (λ b. times g xs ≤ cond b (suc (times g xs)) (times g xs)) (sym t.0) (omega arith)
    ]

times_append : (g : ℕ) (xs ys : List ℕ) → times g (xs ++ ys) ≡ times g xs + times g ys
times_append g [] ys = omega arith
times_append g (x ∷ xs) ys =
    let rest = times_append g xs ys in
    elim (eqb_tells x g) as (λ _. times g (x ∷ (xs ++ ys)) ≡ times g (x ∷ xs) + times g ys) [
      | inl t ↦ subst (λ b. cond b (suc (times g (xs ++ ys))) (times g (xs ++ ys))
          ≡ cond b (suc (times g xs)) (times g xs) + times g ys) (sym t.0) (omega arith)
      | inr t ↦ subst (λ b. cond b (suc (times g (xs ++ ys))) (times g (xs ++ ys))
          ≡ cond b (suc (times g xs)) (times g xs) + times g ys) (sym t.0) rest
    ]

module _ (keys : List (Option Key)) (apart : (f g : ℕ) (k : Key) → key_at keys f ≡ Some k → key_at keys g ≡ Some k → f
    ≡ g) where
  lacks : (x : ℕ) (ys : List ℕ) → IsSome (key_at keys x) → ((y : ℕ) → 0 < times y ys → (y ≢ x) × IsSome (key_at keys y))
      → Lacks (name_at keys x) (map (name_at keys) ys)
  lacks x [] own all = tt
  lacks x (y ∷ ys) own all =
      let here = all y (let h = times_head y ys in omega arith) in
      let a = some_is (key_at keys x) own in let b = some_is (key_at keys y) here.1 in (
        elim (same_cases (name_at keys y) (name_at keys x)) as (λ _. same_key (name_at keys y) (name_at keys x)
            ≡ false) [
              | inl t ↦ absurd (let same : b.0 ≡ a.0 = sym (ap name_or b.1)
                  ∙ (same_is (name_at keys y) (name_at keys x) t ∙ ap name_or a.1) in
                  here.0 (apart y x a.0 (b.1 ∙ ap Some same) a.1))
              | inr t ↦ t
            ],
        lacks x ys own (λ z some. all z (let more = times_tail z y ys in omega arith)),
      )

  names_apart : (xs : List ℕ) → ((g : ℕ) → times g xs ≤ 1) → ((g : ℕ) → 0 < times g xs → IsSome (key_at keys g))
      → AreApart (map (name_at keys) xs)
  names_apart [] one own = tt
  names_apart (x ∷ xs) one own = (
    lacks x xs (own x (let h = times_head x xs in omega arith))
        (λ y some. (
          (λ e. let h = times_head x xs in let o = one x in let here : 0 < times x xs =
              subst (λ z. 0 < times z xs) e some in omega arith),
          own y (let more = times_tail y x xs in omega arith),
        )),
    names_apart xs (λ g. let more = times_tail g x xs in let o = one g in omega arith)
        (λ g some. own g (let more = times_tail g x xs in omega arith)),
  )

keys_map : (keys : List (Option Key)) (blocks : List (List ℕ)) (xs ys : List ℕ) → map (name_at keys) (xs ++ ys)
    ≡ keys_of (map (entry_at keys blocks) xs ++ map (entry_at keys blocks) ys)
keys_map keys blocks [] [] = refl
keys_map keys blocks [] (y ∷ ys) = ap (λ ns. name_at keys y ∷ ns) (keys_map keys blocks [] ys)
keys_map keys blocks (x ∷ xs) ys = ap (λ ns. name_at keys x ∷ ns) (keys_map keys blocks xs ys)

module _ (l : FrameLists) (keys : List (Option Key)) (names : List Key) (h : AreHeld l keys (frame_count l) names) where
  at_most_once : (g : ℕ) → times_in_all g l ≤ 1
  at_most_once g =
      elim (eq-zero-or-pos (times_in_all g l)) as (λ _. times_in_all g l ≤ 1) [
        | inl none ↦ omega arith
        | inr some ↦ (let one = once l h.whole g (in_range l h.whole g some) in omega arith)
      ]

  owns : (g : ℕ) → 0 < times g l.locked + times g l.lru → IsSome (key_at keys g)
  owns g some = h.held g (λ e. let r = in_range l h.whole g (omega arith) in omega arith) some

  pub locked_apart : AreApart (map (name_at keys) l.locked)
  locked_apart = names_apart keys h.apart l.locked (λ g. let one = at_most_once g in omega arith)
      (λ g some. owns g (omega arith))

  pub all_apart : AreApart (keys_of ((held_by l keys).locked ++ (held_by l keys).lru))
  all_apart =
      subst AreApart (keys_map keys l.blocks l.locked l.lru)
      (names_apart keys h.apart (l.locked ++ l.lru)
      (λ g. let one = at_most_once g in let sum = times_append g l.locked l.lru in omega arith)
      (λ g some. owns g (let sum = times_append g l.locked l.lru in omega arith)))
