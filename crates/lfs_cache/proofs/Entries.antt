-- Taking a frame out of a list takes its key's entry out (`entries_without`, `names_kept`), and a key's block is the
-- one at its frame (`block_found`, `block_absent`, `block_missing`): for Cached and Steps. By induction on the list of
-- frames, where each is f or has another key (`IsAloneIn`); `without_key` drops every entry of the key, `without` the
-- one frame, so a key at two frames would break it. `same_is`, that `same_key` tells keys apart, is cited through all
-- crates above.
use Rattle.std.proofs.Common.{◌≡◌, ◌≢◌, ◌⊎◌, ℕ, suc, ◌<◌, ◌≤◌, true, false, cond, ◌==◌, List, [], ◌∷◌, Option, Some}
use Rattle.std.proofs.Common.{None, refl, sym, ap, subst, ◌∙◌, inl, inr, arith}
use Rattle.std.specs.Prelude.{map}
use Rattle.std.proofs.Math.ListN.{get_or}
use Rattle.std.proofs.lemmas.Bool.Decides.{eqb_tells, nat_tests}
use Rattle.lfs_recency.specs.FrameLists.{without, times, oldest_of, last_from}
use Rattle.lfs_cache.specs.declared.key.Key.{Key}
use Rattle.lfs_cache.specs.Keys.{same_key}
use Rattle.lfs_cache.specs.Index.{key_at}
use Rattle.lfs_cache.specs.Frames.{name_or, names_without}
use Rattle.lfs_cache.specs.Contents.{block_in, without_key, drop_last}
use Rattle.lfs_cache.specs.Held.{name_at, entry_at}

pub same_is : (a b : Key) → same_key a b ≡ true → a ≡ b
same_is a b h =
    let i : a.ino ≡ b.ino = grind (arith, nat_tests) in let v : a.version
    ≡ b.version = grind (arith, nat_tests) in let n : a.lbn.0 ≡ b.lbn.0 = grind (arith, nat_tests) in
    λ t. record { ino = i t; version = v t; lbn = record { 0 = n t } }

pub same_self : (a : Key) → same_key a a ≡ true
same_self a = grind (arith, nat_tests)

pub same_cases : (a b : Key) → (same_key a b ≡ true) ⊎ (same_key a b ≡ false)
same_cases a b = elim (same_key a b) as (λ t. (t ≡ true) ⊎ (t ≡ false)) [ true ↦ inl refl | false ↦ inr refl ]

-- frames that have f among them or not
pub without_absent : (f : ℕ) (xs : List ℕ) → times f xs ≡ 0 → without f xs ≡ xs
without_absent f [] none = refl
without_absent f (x ∷ xs) none =
    elim (eqb_tells x f) as (λ _. without f (x ∷ xs) ≡ x ∷ xs) [
      | inl t ↦ absurd (let bad : suc (times f xs)
          ≡ 0 = subst (λ b. cond b (suc (times f xs)) (times f xs) ≡ 0) t.0 none in omega arith)
      | inr t ↦ ap (λ b. cond b (without f xs) (x ∷ without f xs)) t.0
          ∙ ap (λ ys. x ∷ ys) (without_absent f xs (subst (λ b. cond b (suc (times f xs)) (times f xs) ≡ 0) t.0 none))
    ]

last_times : (x : ℕ) (xs : List ℕ) → 0 < times (last_from x xs) (x ∷ xs)
last_times x [] = let on : (x == x) ≡ true = grind (arith, nat_tests) in
    subst (λ b. 0 < cond b 1 0) (sym on) (omega arith)
last_times x (y ∷ ys) =
    let rest : 0 < times (last_from y ys) (y ∷ ys) = last_times y ys in
    elim (eqb_tells x (last_from y ys)) as (λ _. 0 < times (last_from y ys) (x ∷ y ∷ ys)) [
      | inl t ↦ subst (λ b. 0 < cond b (suc (times (last_from y ys) (y ∷ ys))) (times (last_from y ys) (y ∷ ys)))
          (sym t.0) (omega arith)
      | inr t ↦ subst (λ b. 0 < cond b (suc (times (last_from y ys) (y ∷ ys))) (times (last_from y ys) (y ∷ ys)))
          (sym t.0) rest
    ]

pub oldest_times : (xs : List ℕ) (f : ℕ) → oldest_of xs ≡ Some f → 0 < times f xs
oldest_times [] f is = let bad : None ≡ Some f = is in absurd (cc)
oldest_times (x ∷ xs) f is = let same : last_from x xs
    ≡ f = cc in subst (λ g. 0 < times g (x ∷ xs)) same (last_times x xs)

pub oldest_empty : (xs : List ℕ) → oldest_of xs ≡ None → xs ≡ []
oldest_empty [] is = refl
oldest_empty (x ∷ xs) is = let bad : Some (last_from x xs) ≡ None = is in absurd (cc)

-- a list without its last number, where that stands in it once
last_dropped : (x : ℕ) (xs : List ℕ) → times (last_from x xs) (x ∷ xs) ≡ 1 → without (last_from x xs) (x ∷ xs)
    ≡ drop_last (x ∷ xs)
last_dropped x [] once = let on : (x == x) ≡ true = grind (arith, nat_tests) in ap (λ b. cond b [] (x ∷ [])) on
last_dropped x (y ∷ ys) once =
    let f : ℕ = last_from y ys in
    elim (eqb_tells x f) as (λ _. without f (x ∷ y ∷ ys) ≡ x ∷ drop_last (y ∷ ys)) [
      | inl t ↦ absurd (let more : suc (times f (y ∷ ys))
          ≡ 1 = subst (λ b. cond b (suc (times f (y ∷ ys))) (times f (y ∷ ys)) ≡ 1) t.0 once in let some =
          last_times y ys in omega arith)
      | inr t ↦ ap (λ b. cond b (without f (y ∷ ys)) (x ∷ without f (y ∷ ys))) t.0
          ∙ ap (λ zs. x ∷ zs) (last_dropped y ys (subst (λ b. cond b (suc (times f (y ∷ ys))) (times f (y ∷ ys))
          ≡ 1) t.0 once))
    ]

pub oldest_dropped : (xs : List ℕ) (f : ℕ) → oldest_of xs ≡ Some f → times f xs ≡ 1 → without f xs ≡ drop_last xs
oldest_dropped [] f is once = refl
oldest_dropped (x ∷ xs) f is once = let same : last_from x xs
    ≡ f = cc in subst (λ g. times g (x ∷ xs) ≡ 1 → without g (x ∷ xs) ≡ drop_last (x ∷ xs)) same
    (last_dropped x xs) once

pub drop_last-map : {X Y : Type 0} (g : X → Y) (xs : List X) → drop_last (map g xs) ≡ map g (drop_last xs)
drop_last-map g [] = refl
drop_last-map g (x ∷ []) = refl
drop_last-map g (x ∷ y ∷ ys) = ap (λ zs. g x ∷ zs) (drop_last-map g (y ∷ ys))

-- entries that agree at the frames of a list
pub map_same : {Y : Type 0} (g h : ℕ → Y) (xs : List ℕ) → ((x : ℕ) → 0 < times x xs → g x ≡ h x) → map g xs ≡ map h xs
map_same g h [] same = refl
map_same g h (x ∷ xs) same =
    let on : (x == x) ≡ true = grind (arith, nat_tests) in
    λ i. same x (subst (λ b. 0 < cond b (suc (times x xs)) (times x xs)) (sym on) (omega arith)) i ∷
    map_same g h xs (λ y some. same y (elim (eqb_tells x y) as (λ _. 0 < times y (x ∷ xs)) [
      | inl t ↦ subst (λ b. 0 < cond b (suc (times y xs)) (times y xs)) (sym t.0) (omega arith)
      | inr t ↦ subst (λ b. 0 < cond b (suc (times y xs)) (times y xs)) (sym t.0) some
    ])) i

-- the frames of a list have keys, of which f alone has k
abbrev pub IsAloneIn : List (Option Key) → Key → ℕ → List ℕ → Type 0
IsAloneIn keys k f xs = (g : ℕ) → 0 < times g xs → g ≢ f → same_key (name_at keys g) k ≡ false

tail_alone : (keys : List (Option Key)) (k : Key) (f x : ℕ) (xs : List ℕ) → IsAloneIn keys k f (x ∷ xs)
    → IsAloneIn keys k f xs
tail_alone keys k f x xs alone g some ne =
    alone g (elim (eqb_tells x g) as (λ _. 0 < times g (x ∷ xs)) [
      | inl t ↦ subst (λ b. 0 < cond b (suc (times g xs)) (times g xs)) (sym t.0) (omega arith)
      | inr t ↦ subst (λ b. 0 < cond b (suc (times g xs)) (times g xs)) (sym t.0) some
    ]) ne

head_alone : (keys : List (Option Key)) (k : Key) (f x : ℕ) (xs : List ℕ) → IsAloneIn keys k f (x ∷ xs) → x ≢ f
    → same_key (name_at keys x) k ≡ false
head_alone keys k f x xs alone ne =
    let on : (x == x) ≡ true = grind (arith, nat_tests) in
    alone x (subst (λ b. 0 < cond b (suc (times x xs)) (times x xs)) (sym on) (omega arith)) ne

module _ (keys : List (Option Key)) (blocks : List (List ℕ)) (k : Key) (f : ℕ) (is : key_at keys f ≡ Some k) where
  abbrev e : ℕ → Key × List ℕ
  e = entry_at keys blocks

  named_f : name_at keys f ≡ k
  named_f = ap name_or is

  pub entries_without : (xs : List ℕ) → IsAloneIn keys k f xs → map e (without f xs) ≡ without_key k (map e xs)
  entries_without [] alone = refl
  entries_without (x ∷ xs) alone =
      let rest = entries_without xs (tail_alone keys k f x xs alone) in
      elim (eqb_tells x f) as (λ _. map e (without f (x ∷ xs)) ≡ without_key k (map e (x ∷ xs))) [
        | inl t ↦ ap (λ b. map e (cond b (without f xs) (x ∷ without f xs))) t.0
            ∙ (rest ∙ ap (λ b. cond b (without_key k (map e xs)) (e x ∷ without_key k (map e xs)))
            (sym (ap (λ z. same_key (name_at keys z) k) t.1 ∙ (ap (λ z. same_key z k) named_f ∙ same_self k))))
        | inr t ↦ ap (λ b. map e (cond b (without f xs) (x ∷ without f xs))) t.0
            ∙ (ap (λ zs. e x ∷ zs) rest ∙ ap (λ b. cond b (without_key k (map e xs)) (e x ∷ without_key k (map e xs)))
            (sym (head_alone keys k f x xs alone t.1)))
      ]

  pub names_kept : (xs : List ℕ) → times f xs ≤ 1 → IsAloneIn keys k f xs → names_without k (map (name_at keys) xs)
      ≡ map (name_at keys) (without f xs)
  names_kept [] once alone = refl
  names_kept (x ∷ xs) once alone =
      elim (eqb_tells x f) as (λ _. names_without k (map (name_at keys) (x ∷ xs))
      ≡ map (name_at keys) (without f (x ∷ xs))) [
        | inl t ↦ (let more : suc (times f xs) ≤ 1 = subst (λ b. cond b (suc (times f xs)) (times f xs) ≤ 1) t.0 once in
            ap (λ b. cond b (map (name_at keys) xs) (name_at keys x ∷ names_without k (map (name_at keys) xs)))
            (ap (λ z. same_key (name_at keys z) k) t.1 ∙ (ap (λ z. same_key z k) named_f ∙ same_self k))
            ∙ (ap (map (name_at keys)) (sym (without_absent f xs (omega arith)))
            ∙ ap (λ b. map (name_at keys) (cond b (without f xs) (x ∷ without f xs))) (sym t.0)))
        | inr t ↦ (let less : times f xs ≤ 1 = subst (λ b. cond b (suc (times f xs)) (times f xs) ≤ 1) t.0 once in
            ap (λ b. cond b (map (name_at keys) xs) (name_at keys x ∷ names_without k (map (name_at keys) xs)))
            (head_alone keys k f x xs alone t.1)
            ∙ (ap (λ zs. name_at keys x ∷ zs) (names_kept xs less (tail_alone keys k f x xs alone))
            ∙ ap (λ b. map (name_at keys) (cond b (without f xs) (x ∷ without f xs))) (sym t.0)))
      ]

  pub block_found : (xs : List ℕ) → 0 < times f xs → IsAloneIn keys k f xs → block_in k (map e xs)
      ≡ Some (get_or blocks f [])
  block_found [] some alone = absurd (omega arith)
  block_found (x ∷ xs) some alone =
      elim (eqb_tells x f) as (λ _. block_in k (map e (x ∷ xs)) ≡ Some (get_or blocks f [])) [
        | inl t ↦ ap (λ b. cond b (Some (get_or blocks x [])) (block_in k (map e xs)))
            (ap (λ z. same_key (name_at keys z) k) t.1 ∙ (ap (λ z. same_key z k) named_f ∙ same_self k))
            ∙ ap (λ z. Some (get_or blocks z [])) t.1
        | inr t ↦ ap (λ b. cond b (Some (get_or blocks x [])) (block_in k (map e xs)))
            (head_alone keys k f x xs alone t.1)
            ∙ block_found xs (subst (λ b. 0 < cond b (suc (times f xs)) (times f xs)) t.0 some)
            (tail_alone keys k f x xs alone)
      ]

  pub block_absent : (xs : List ℕ) → times f xs ≡ 0 → IsAloneIn keys k f xs → block_in k (map e xs) ≡ None
  block_absent [] none alone = refl
  block_absent (x ∷ xs) none alone =
      elim (eqb_tells x f) as (λ _. block_in k (map e (x ∷ xs)) ≡ None) [
        | inl t ↦ absurd (let bad : suc (times f xs)
            ≡ 0 = subst (λ b. cond b (suc (times f xs)) (times f xs) ≡ 0) t.0 none in omega arith)
        | inr t ↦ ap (λ b. cond b (Some (get_or blocks x [])) (block_in k (map e xs)))
            (head_alone keys k f x xs alone t.1)
            ∙ block_absent xs (subst (λ b. cond b (suc (times f xs)) (times f xs) ≡ 0) t.0 none)
            (tail_alone keys k f x xs alone)
      ]

-- a key that is at no frame of a list
pub block_missing : (keys : List (Option Key)) (blocks : List (List ℕ)) (k : Key) (xs : List ℕ)
    → ((g : ℕ) → 0 < times g xs → same_key (name_at keys g) k ≡ false) → block_in k (map (entry_at keys blocks) xs)
    ≡ None
block_missing keys blocks k [] others = refl
block_missing keys blocks k (x ∷ xs) others =
    ap (λ b. cond b (Some (get_or blocks x [])) (block_in k (map (entry_at keys blocks) xs)))
    (others x (let on : (x == x) ≡ true = grind (arith, nat_tests) in
    subst (λ b. 0 < cond b (suc (times x xs)) (times x xs)) (sym on) (omega arith)))
    ∙ block_missing keys blocks k xs (λ g some. others g (elim (eqb_tells x g) as (λ _. 0 < times g (x ∷ xs)) [
      | inl t ↦ subst (λ b. 0 < cond b (suc (times g xs)) (times g xs)) (sym t.0) (omega arith)
      | inr t ↦ subst (λ b. 0 < cond b (suc (times g xs)) (times g xs)) (sym t.0) some
    ]))
