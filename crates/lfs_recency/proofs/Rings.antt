-- A ring is a function from number to number with another one back: they undo each other still when a number is passed
-- over or put in (`passed_there`, `put_there`, `put_back`), and a path then is the list without it, or with it
-- (`path_without`), for Linked. Each goes by cases: the number before, the number itself, all others, which no change
-- reaches because no two numbers lead to one. `chain_is` reads a path back as its list, as long as its numbers are
-- below n and its end isn't.
use Rattle.std.proofs.Common.{◌≡◌, ◌≢◌, ℕ, zero, suc, ◌<◌, ◌≤◌, true, false, cond, ◌==◌, nat_lt, List, [], ◌∷◌, length}
use Rattle.std.proofs.Common.{refl, sym, ap, subst, ◌∙◌, inl, inr, arith}
use Rattle.std.proofs.lemmas.Bool.Decides.{eqb_tells, nat_tests}
use Rattle.lfs_recency.specs.FrameLists.{without, last_from}
use Rattle.lfs_recency.specs.Links.{chain, IsPath, Every}
use Rattle.lfs_recency.proofs.Lists.{same_test, other_test}

-- a value that is chosen by a test of two numbers
pub at_same : {X : Type 0} (i j : ℕ) (x y : X) → i ≡ j → cond (i == j) x y ≡ x
at_same i j x y e = ap (λ t. cond t x y) (same_test i j e)

pub at_other : {X : Type 0} (i j : ℕ) (x y : X) → i ≢ j → cond (i == j) x y ≡ y
at_other i j x y ne = ap (λ t. cond t x y) (other_test i j ne)

-- the last number of a path leads to its end
pub path_end : (step : ℕ → ℕ) (a : ℕ) (xs : List ℕ) (z : ℕ) → IsPath step a xs z → step (last_from a xs) ≡ z
path_end step a [] z p = p
path_end step a (b ∷ bs) z p = path_end step b bs z p.1

-- a path is what the steps show
pub chain_is : (step : ℕ → ℕ) (n k a z : ℕ) (xs : List ℕ) → n ≤ z → length xs ≤ k → Every (λ i. i < n) xs
    → IsPath step a xs z → chain step n k (step a) ≡ xs
chain_is step n zero a z [] high room all p = refl
chain_is step n (suc k) a z [] high room all p = ap (λ i. cond (nat_lt i n) (i ∷ chain step n k (step i)) []) p
    ∙ (let off : nat_lt z n ≡ false = grind (arith, nat_tests) in ap (λ t. cond t (z ∷ chain step n k (step z)) []) off)
chain_is step n zero a z (b ∷ bs) high room all p = absurd (omega arith)
chain_is step n (suc k) a z (b ∷ bs) high room all p =
    ap (λ i. cond (nat_lt i n) (i ∷ chain step n k (step i)) []) p.0 ∙
    (let below : b < n = all.0 in let on : nat_lt b n
    ≡ true = grind (arith, nat_tests) in ap (λ t. cond t (b ∷ chain step n k (step b)) []) on
    ∙ ap (λ bs'. b ∷ bs') (chain_is step n k b z bs high (omega (arith, room)) all.1 p.1))

-- a path along other steps that agree with the old ones on its numbers, but may begin elsewhere
pub path_kept : (step step' : ℕ → ℕ) (a b : ℕ) (xs : List ℕ) (z : ℕ) → step' a ≡ step b
    → Every (λ i. step' i ≡ step i) xs → IsPath step b xs z → IsPath step' a xs z
path_kept step step' a b [] z same all p = same ∙ p
path_kept step step' a b (c ∷ cs) z same all p = (same ∙ p.0, path_kept step step' c c cs z all.0 all.1 p.1)

-- how the steps from i go on once f is passed over
abbrev pub Passes : (ℕ → ℕ) → (ℕ → ℕ) → ℕ → ℕ → ℕ → Type 0
Passes step step' f a b = (step b ≢ f → step' a ≡ step b) × (step b ≡ f → step' a ≡ step f)

-- a path without f
pub path_without : (step step' : ℕ → ℕ) (m f a b : ℕ) (xs : List ℕ) (z : ℕ)
    → ((i : ℕ) → i < m → Passes step step' f i i) → ((i : ℕ) → i < m → step i < m)
    → b < m → Passes step step' f a b → z ≢ f → IsPath step b xs z → IsPath step' a (without f xs) z
path_without step step' m f a b [] z all inner inside here far p = here.0 (λ e. far (sym p ∙ e)) ∙ p
path_without step step' m f a b (c ∷ cs) z all inner inside here far p =
    let c_inside : c < m = subst (λ k. k < m) p.0 (inner b inside) in
    elim (eqb_tells c f) as (λ _. IsPath step' a (without f (c ∷ cs)) z) [
      | inl t ↦ let on = t.0 in rw on (
          let leads : step' a ≡ step f = here.1 (p.0 ∙ t.1) in
          path_without step step' m f a c cs z all inner c_inside (
            (λ _. leads ∙ ap step (sym t.1)),
            (λ _. leads),
          ) far p.1)
      | inr t ↦ let off = t.0 in rw off (
        here.0 (λ e. t.1 (sym p.0 ∙ e)) ∙ p.0,
        path_without step step' m f c c cs z all inner c_inside (all c c_inside) far p.1,
      )
    ]

-- f is passed over by the steps forth and by the steps back
module _ (m f : ℕ) (step back step' back' : ℕ → ℕ)
    (f_inside : f < m)
    (inner : (i : ℕ) → i < m → step i < m)
    (inner_back : (i : ℕ) → i < m → back i < m)
    (there : (i : ℕ) → i < m → back (step i) ≡ i)
    (again : (i : ℕ) → i < m → step (back i) ≡ i)
    (step-is : (i : ℕ) → step' i ≡ cond (i == back f) (step f) (step i))
    (back-is : (i : ℕ) → back' i ≡ cond (i == step f) (back f) (back i)) where
  pub passes : (i : ℕ) → i < m → Passes step step' f i i
  passes i inside = (
    (λ ne. step-is i ∙ at_other i (back f) (step f) (step i) (λ e. ne (ap step e ∙ again f f_inside))),
    (λ e. step-is i ∙ at_same i (back f) (step f) (step i) (sym (there i inside) ∙ ap back e)),
  )

  pub passed_there : (i : ℕ) → i < m → i ≢ f → (back' (step' i) ≡ i) × (step' i ≢ f)
  passed_there i inside ne =
      elim (eqb_tells (step i) f) as (λ _. (back' (step' i) ≡ i) × (step' i ≢ f)) [
        | inl t ↦ let leads : step' i ≡ step f = (passes i inside).1 t.1 in (
          ap back' leads ∙ (back-is (step f) ∙ (at_same (step f) (step f) (back f) (back (step f)) refl
              ∙ (ap back (sym t.1) ∙ there i inside))),
          (λ e. ne (sym (there i inside) ∙ (ap back (t.1 ∙ (sym e ∙ leads)) ∙ there f f_inside))),
        )
        | inr t ↦ let stays : step' i ≡ step i = (passes i inside).0 t.1 in (
          ap back' stays ∙ (back-is (step i) ∙ (at_other (step i) (step f) (back f) (back (step i))
              (λ e. ne (sym (there i inside) ∙ (ap back e ∙ there f f_inside))) ∙ there i inside)),
          (λ e. t.1 (sym stays ∙ e)),
        )
      ]

-- f is put after h by the steps forth and by the steps back. So far neither led to f
module _ (m f h : ℕ) (step back step' back' : ℕ → ℕ)
    (h_inside : h < m)
    (apart : h ≢ f)
    (there : (i : ℕ) → i < m → i ≢ f → (back (step i) ≡ i) × (step i ≢ f))
    (again : (i : ℕ) → i < m → i ≢ f → (step (back i) ≡ i) × (back i ≢ f))
    (step-is : (i : ℕ) → step' i ≡ cond (i == h) f (cond (i == f) (step h) (step i)))
    (back-is : (i : ℕ) → back' i ≡ cond (i == step h) f (cond (i == f) h (back i))) where
  pub put_at_head : step' h ≡ f
  put_at_head = step-is h ∙ at_same h h f (cond (h == f) (step h) (step h)) refl

  pub put_at_new : step' f ≡ step h
  put_at_new = step-is f ∙ (at_other f h f (cond (f == f) (step h) (step f)) (λ e. apart (sym e))
      ∙ at_same f f (step h) (step f) refl)

  pub put_elsewhere : (i : ℕ) → i ≢ h → i ≢ f → step' i ≡ step i
  put_elsewhere i off_head off_new = step-is i
      ∙ (at_other i h f (cond (i == f) (step h) (step i)) off_head ∙ at_other i f (step h) (step i) off_new)

  back_at_first : back' (step h) ≡ f
  back_at_first = back-is (step h) ∙ at_same (step h) (step h) f (cond (step h == f) h (back (step h))) refl

  back_at_new : back' f ≡ h
  back_at_new = back-is f ∙ (at_other f (step h) f (cond (f == f) h (back f)) (λ e. (there h h_inside apart).1 (sym e))
      ∙ at_same f f h (back f) refl)

  back_elsewhere : (i : ℕ) → i ≢ step h → i ≢ f → back' i ≡ back i
  back_elsewhere i off_first off_new = back-is i
      ∙ (at_other i (step h) f (cond (i == f) h (back i)) off_first ∙ at_other i f h (back i) off_new)

  put_there_other : (i : ℕ) → i < m → i ≢ h → i ≢ f → back' (step' i) ≡ i
  put_there_other i inside off_head off_new =
      ap back' (put_elsewhere i off_head off_new) ∙ (back_elsewhere (step i)
      (λ e. off_head (sym (there i inside off_new).0 ∙ (ap back e ∙ (there h h_inside apart).0)))
      (there i inside off_new).1 ∙ (there i inside off_new).0)

  pub put_there : (i : ℕ) → i < m → back' (step' i) ≡ i
  put_there i inside =
      elim (eqb_tells i h) as (λ _. back' (step' i) ≡ i) [
        | inl t ↦ ap (λ j. back' (step' j)) t.1 ∙ (ap back' put_at_head ∙ (back_at_new ∙ sym t.1))
        | inr t ↦ elim (eqb_tells i f) as (λ _. back' (step' i) ≡ i) [
          | inl u ↦ ap (λ j. back' (step' j)) u.1 ∙ (ap back' put_at_new ∙ (back_at_first ∙ sym u.1))
          | inr u ↦ put_there_other i inside t.1 u.1
        ]
      ]

  put_back_other : (i : ℕ) → i < m → i ≢ step h → i ≢ f → step' (back' i) ≡ i
  put_back_other i inside off_first off_new =
      ap step' (back_elsewhere i off_first off_new) ∙ (put_elsewhere (back i)
      (λ e. off_first (sym (again i inside off_new).0 ∙ ap step e)) (again i inside off_new).1
      ∙ (again i inside off_new).0)

  pub put_back : (i : ℕ) → i < m → step' (back' i) ≡ i
  put_back i inside =
      elim (eqb_tells i (step h)) as (λ _. step' (back' i) ≡ i) [
        | inl t ↦ ap (λ j. step' (back' j)) t.1 ∙ (ap step' back_at_first ∙ (put_at_new ∙ sym t.1))
        | inr t ↦ elim (eqb_tells i f) as (λ _. step' (back' i) ≡ i) [
          | inl u ↦ ap (λ j. step' (back' j)) u.1 ∙ (ap step' back_at_new ∙ (put_at_head ∙ sym u.1))
          | inr u ↦ put_back_other i inside t.1 u.1
        ]
      ]
