-- Each number stands once in the four lists, also when it left one and came first in another: `whole-pushed` with
-- `times-taken_same` and `times-taken_other`, for Kept and for Steps of `lfs_cache`. It is counting: `without` leaves
-- none of its number and as many of each other, by induction on the list, and a push adds one. A fifth queue is a fifth
-- list in each of the sums here, and a head more in `head_low`.
use Rattle.std.proofs.Common.{◌≡◌, ◌≢◌, ◌⊎◌, ℕ, suc, ◌+◌, ◌<◌, ◌≤◌, Bool, true, false, cond, ◌==◌, nat_lt, List, []}
use Rattle.std.proofs.Common.{◌∷◌, length, refl, sym, ap, subst, ◌∙◌, inl, inr, zero-add, arith}
use Rattle.std.proofs.lemmas.Bool.Decides.{eqb_tells, nat_tests}
use Rattle.lfs_recency.specs.declared.queue.Queue.{Queue}
use Rattle.lfs_recency.specs.declared.queue.Queue.TheVariants.{Locked, Lru, Age, Empty}
use Rattle.lfs_recency.specs.FrameLists.{FrameLists, listed, without, taken, pushed, times, times_in_all}
use Rattle.lfs_recency.specs.Links.{Every, head_of, count_all}

-- a test of two numbers, as the fact that it tells
pub same_test : (a b : ℕ) → a ≡ b → (a == b) ≡ true
same_test a b e = grind (arith, nat_tests)

pub other_test : (a b : ℕ) → a ≢ b → (a == b) ≡ false
other_test a b ne = grind (arith, nat_tests)

pub less_test : (a b : ℕ) → a < b → nat_lt a b ≡ true
less_test a b l = grind (arith, nat_tests)

pub times-without_same : (f : ℕ) (xs : List ℕ) → times f (without f xs) ≡ 0
times-without_same f [] = refl
times-without_same f (x ∷ xs) =
    elim (eqb_tells x f) as (λ _. times f (without f (x ∷ xs)) ≡ 0) [
      | inl h ↦ simp h.0 (times-without_same f xs)
      | inr h ↦ simp h.0 (times-without_same f xs)
    ]

times_step : (f g x : ℕ) (xs : List ℕ) → g ≢ f → times g (without f xs) ≡ times g xs → times g (without f (x ∷ xs))
    ≡ times g (x ∷ xs)
times_step f g x xs ne known =
    elim (eqb_tells x f) as (λ _. times g (without f (x ∷ xs)) ≡ times g (x ∷ xs)) [
      | inl h ↦ let off : (x == g) ≡ false = other_test x g (λ e. ne (sym e ∙ h.1)) in simp (h.0, off) known
      | inr h ↦ simp h.0 (ap (λ k. cond (x == g) (suc k) k) known)
    ]

pub times-without_other : (f g : ℕ) (xs : List ℕ) → g ≢ f → times g (without f xs) ≡ times g xs
times-without_other f g [] ne = refl
times-without_other f g (x ∷ xs) ne = times_step f g x xs ne (times-without_other f g xs ne)

length_step : (f x : ℕ) (xs : List ℕ) → length (without f xs) + times f xs ≡ length xs → length (without f (x ∷ xs))
    + times f (x ∷ xs) ≡ length (x ∷ xs)
length_step f x xs known =
    elim (eqb_tells x f) as (λ _. length (without f (x ∷ xs)) + times f (x ∷ xs) ≡ length (x ∷ xs))
    [ inl h ↦ simp h.0 (omega (arith, known)) | inr h ↦ simp h.0 (omega (arith, known)) ]

pub length-without : (f : ℕ) (xs : List ℕ) → length (without f xs) + times f xs ≡ length xs
length-without f [] = refl
length-without f (x ∷ xs) = length_step f x xs (length-without f xs)

module _ (P : ℕ → Type 0) where
  pub Every-without : (f : ℕ) (xs : List ℕ) → Every P xs → Every P (without f xs)
  Every-without f [] h = tt
  Every-without f (x ∷ xs) h =
      elim (eqb_tells x f) as (λ _. Every P (without f (x ∷ xs))) [
        | inl t ↦ let e = t.0 in rw e (Every-without f xs h.1)
        | inr t ↦ let e = t.0 in rw e (h.0, Every-without f xs h.1)
      ]

  pub Every-times : (f : ℕ) (xs : List ℕ) → Every P xs → 0 < times f xs → P f
  Every-times f [] h some = absurd (omega arith)
  Every-times f (x ∷ xs) h some =
      elim (eqb_tells x f) as (λ _. P f) [
        | inl t ↦ subst P t.1 h.0
        | inr t ↦ Every-times f xs h.1
            (subst (λ (b : Bool). 0 < cond b (suc (times f xs)) (times f xs)) t.0 some)
      ]

  pub Every-map : (Q : ℕ → Type 0) → ((i : ℕ) → P i → Q i) → (xs : List ℕ) → Every P xs → Every Q xs
  Every-map Q to [] h = tt
  Every-map Q to (x ∷ xs) h = (to x h.0, Every-map Q to xs h.1)

pub Every-lacks : (f : ℕ) (xs : List ℕ) → times f xs ≡ 0 → Every (λ i. i ≢ f) xs
Every-lacks f [] h = tt
Every-lacks f (x ∷ xs) h =
    elim (eqb_tells x f) as (λ _. Every (λ i. i ≢ f) (x ∷ xs)) [
      | inl t ↦ absurd (let none : suc (times f xs)
          ≡ 0 = subst (λ (b : Bool). cond b (suc (times f xs)) (times f xs) ≡ 0) t.0 h in omega arith)
      | inr t ↦ (t.1, Every-lacks f xs (subst (λ (b : Bool). cond b (suc (times f xs)) (times f xs) ≡ 0) t.0 h))
    ]

pub Every-both : (P Q : ℕ → Type 0) (xs : List ℕ) → Every P xs → Every Q xs → Every (λ i. P i × Q i) xs
Every-both P Q [] h k = tt
Every-both P Q (x ∷ xs) h k = ((h.0, k.0), Every-both P Q xs h.1 k.1)

-- the list of each queue after f has left
pub listed-taken : (f : ℕ) (s : FrameLists) (q : Queue) → listed q (taken f s) ≡ without f (listed q s)
listed-taken f s Locked = refl
listed-taken f s Lru = refl
listed-taken f s Age = refl
listed-taken f s Empty = refl

-- the list of the queue p after f has come into the queue q: either p is q, or p has another head
pub listed-pushed : (n f : ℕ) (s : FrameLists) (p q : Queue) → ((p ≡ q) × (listed p (pushed f q s) ≡ f ∷ listed p s))
    ⊎ ((head_of n p ≢ head_of n q) × (listed p (pushed f q s) ≡ listed p s))
listed-pushed n f s Locked Locked = inl (refl, refl)
listed-pushed n f s Locked Lru = inr ((λ e. omega arith), refl)
listed-pushed n f s Locked Age = inr ((λ e. omega arith), refl)
listed-pushed n f s Locked Empty = inr ((λ e. omega arith), refl)
listed-pushed n f s Lru Locked = inr ((λ e. omega arith), refl)
listed-pushed n f s Lru Lru = inl (refl, refl)
listed-pushed n f s Lru Age = inr ((λ e. omega arith), refl)
listed-pushed n f s Lru Empty = inr ((λ e. omega arith), refl)
listed-pushed n f s Age Locked = inr ((λ e. omega arith), refl)
listed-pushed n f s Age Lru = inr ((λ e. omega arith), refl)
listed-pushed n f s Age Age = inl (refl, refl)
listed-pushed n f s Age Empty = inr ((λ e. omega arith), refl)
listed-pushed n f s Empty Locked = inr ((λ e. omega arith), refl)
listed-pushed n f s Empty Lru = inr ((λ e. omega arith), refl)
listed-pushed n f s Empty Age = inr ((λ e. omega arith), refl)
listed-pushed n f s Empty Empty = inl (refl, refl)

pub head_high : (n : ℕ) (q : Queue) → n ≤ head_of n q
head_high n Locked = omega arith
head_high n Lru = omega arith
head_high n Age = omega arith
head_high n Empty = omega arith

pub head_low : (n : ℕ) (q : Queue) → head_of n q < n + 4
head_low n Locked = omega arith
head_low n Lru = omega arith
head_low n Age = omega arith
head_low n Empty = omega arith

pub blocks-pushed : (f : ℕ) (s : FrameLists) (q : Queue) → (pushed f q s).blocks ≡ s.blocks
blocks-pushed f s Locked = refl
blocks-pushed f s Lru = refl
blocks-pushed f s Age = refl
blocks-pushed f s Empty = refl

pub count-pushed : (f : ℕ) (s : FrameLists) (q : Queue) → count_all (pushed f q s) ≡ suc (count_all s)
count-pushed f s Locked = omega arith
count-pushed f s Lru = omega arith
count-pushed f s Age = omega arith
count-pushed f s Empty = omega arith

pub count-taken : (f : ℕ) (s : FrameLists) → count_all (taken f s) + times_in_all f s ≡ count_all s
count-taken f s = omega (
  arith,
  length-without f s.locked,
  length-without f s.lru,
  length-without f s.age,
  length-without f s.empty,
)

times_here : (f g : ℕ) (xs : List ℕ) (rest : ℕ) → times g (f ∷ xs) + rest ≡ cond (f == g) 1 0 + (times g xs + rest)
times_here f g xs rest =
    elim (eqb_tells f g) as (λ _. times g (f ∷ xs) + rest ≡ cond (f == g) 1 0
    + (times g xs + rest)) [ inl h ↦ simp h.0 (omega arith) | inr h ↦ simp h.0 (omega arith) ]

pub times-pushed : (f g : ℕ) (s : FrameLists) (q : Queue) → times_in_all g (pushed f q s) ≡ cond (f == g) 1 0
    + times_in_all g s
times-pushed f g s Locked = omega (arith, times_here f g s.locked (times g s.lru + times g s.age + times g s.empty))
times-pushed f g s Lru = omega (arith, times_here f g s.lru (times g s.locked + times g s.age + times g s.empty))
times-pushed f g s Age = omega (arith, times_here f g s.age (times g s.lru + times g s.locked + times g s.empty))
times-pushed f g s Empty = omega (arith, times_here f g s.empty (times g s.lru + times g s.age + times g s.locked))

pub times-taken_same : (f : ℕ) (s : FrameLists) → times_in_all f (taken f s) ≡ 0
times-taken_same f s = omega (
  arith,
  times-without_same f s.locked,
  times-without_same f s.lru,
  times-without_same f s.age,
  times-without_same f s.empty,
)

pub times-taken_other : (f g : ℕ) (s : FrameLists) → g ≢ f → times_in_all g (taken f s) ≡ times_in_all g s
times-taken_other f g s ne =
    let a = times-without_other f g s.locked ne in let b = times-without_other f g s.lru ne in
    let c = times-without_other f g s.age ne in let d = times-without_other f g s.empty ne in omega (arith, a, b, c, d)

pub times-listed : (f : ℕ) (s : FrameLists) (q : Queue) → times f (listed q s) ≤ times_in_all f s
times-listed f s Locked = omega arith
times-listed f s Lru = omega arith
times-listed f s Age = omega arith
times-listed f s Empty = omega arith

pub length-listed : (s : FrameLists) (q : Queue) → length (listed q s) ≤ count_all s
length-listed s Locked = omega arith
length-listed s Lru = omega arith
length-listed s Age = omega arith
length-listed s Empty = omega arith

-- a number below n that is in no list, after it has come in
pub whole-pushed : (n f : ℕ) (s : FrameLists) (q : Queue) → f < n
    → ((g : ℕ) → g ≢ f → times_in_all g s ≡ cond (nat_lt g n) 1 0) → times_in_all f s ≡ 0
    → (g : ℕ) → times_in_all g (pushed f q s) ≡ cond (nat_lt g n) 1 0
whole-pushed n f s q below others none g =
    elim (eqb_tells f g) as (λ _. times_in_all g (pushed f q s) ≡ cond (nat_lt g n) 1 0) [
      | inl t ↦ let on : nat_lt g n ≡ true = subst (λ k. nat_lt k n ≡ true) t.1 (less_test f n below) in
          times-pushed f g s q ∙ (ap (λ b. cond b 1 0 + times_in_all g s) t.0
          ∙ (ap (λ k. 1 + times_in_all k s) (sym t.1) ∙ (ap (λ k. 1 + k) none ∙ ap (λ b. cond b 1 0) (sym on))))
      | inr t ↦ times-pushed f g s q ∙ (ap (λ b. cond b 1 0 + times_in_all g s) t.0
          ∙ (zero-add (times_in_all g s) ∙ others g (λ e. t.1 (sym e))))
    ]
