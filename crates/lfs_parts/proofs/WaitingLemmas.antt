-- What the list of waiting records has after one is staged or dropped: `waiting-staged`, `once_staged` and
-- `length-without`, for RecordsLemmas, KeptLemmas, TakingLemmas and `lfs_segwrite`; `without-at` is for `drop_record`.
-- By induction on the list: `without` takes the first record of a number away, and the others of other numbers stay.
-- The invariant AreOnce, that no number waits twice, is what makes the dropped one gone (`once_gone`); a stage that put
-- a record without dropping the old one would let the old one come back.
use Rattle.std.proofs.Common.{◌≡◌, ◌≢◌, ℕ, zero, suc, ◌+◌, ◌<◌, ◌≤◌, List, [], ◌∷◌, All, length, get_or, None, Some}
use Rattle.std.proofs.Common.{IsSome, refl, sym, ap, ◌∙◌, subst, inl, inr, arith}
use Rattle.std.specs.List.{remove}
use Rattle.std.proofs.lemmas.Bool.{cases_eq, cond-true, cond-false, eq-eqb, ne_eqb}
use Rattle.std.proofs.lemmas.List.Elements.{All-cons, All-head, All-tail}
use Rattle.lfs_inodes.specs.declared.inode.Inode.{Inode}
use Rattle.lfs_parts.specs.View.{waiting_in}
use Rattle.lfs_parts.specs.Waiting.{AreOnce, KeepsOtherRecords, without}

-- taking away the record at the first place that has the number
pub without-at : (vs : List Inode) (i number : ℕ) → i < length vs
    → ((k : ℕ) (d : Inode) → k < i → (get_or vs k d).number ≢ number)
    → ((d : Inode) → (get_or vs i d).number ≡ number) → remove vs i ≡ without number vs
unfolding without
without-at [] i number inside others here = absurd (omega arith)
without-at (v ∷ vs) zero number inside others here = sym (cond-true _ _ _ (eq-eqb v.number number (here v)))
without-at (v ∷ vs) (suc i) number inside others here =
    ap (λ ws. v ∷ ws) (without-at vs i number (omega arith) (λ k d low. others (suc k) d (omega arith)) here)
    ∙ sym (cond-false _ _ _ (ne_eqb v.number number (others 0 v (omega arith))))

-- no record has the number
pub without-none : (vs : List Inode) (number : ℕ)
    → ((k : ℕ) (d : Inode) → k < length vs → (get_or vs k d).number ≢ number) → without number vs ≡ vs
unfolding without
without-none [] number others = refl
without-none (v ∷ vs) number others =
    cond-false _ _ _ (ne_eqb v.number number (others 0 v (omega arith)))
    ∙ ap (λ ws. v ∷ ws) (without-none vs number (λ k d low. others (suc k) d (omega arith)))

-- of no records none is there twice
pub none_once : (vs : List Inode) → vs ≡ [] → AreOnce vs
unfolding AreOnce
none_once vs none = subst AreOnce (sym none) tt

-- the record at the first place that has the number is the one that waits
pub waiting-at : (vs : List Inode) (i number : ℕ) (d : Inode) → i < length vs
    → ((k : ℕ) (d : Inode) → k < i → (get_or vs k d).number ≢ number) → (get_or vs i d).number ≡ number
    → waiting_in vs number ≡ Some (get_or vs i d)
waiting-at [] i number d inside others here = absurd (omega arith)
waiting-at (v ∷ vs) zero number d inside others here = cond-true _ _ _ (eq-eqb v.number number here)
waiting-at (v ∷ vs) (suc i) number d inside others here =
    cond-false _ _ _ (ne_eqb v.number number (others 0 v (omega arith)))
    ∙ waiting-at vs i number d (omega arith) (λ k d low. others (suc k) d (omega arith)) here

-- none waits where none has the number
pub waiting-none : (vs : List Inode) (number : ℕ)
    → ((k : ℕ) (d : Inode) → k < length vs → (get_or vs k d).number ≢ number) → waiting_in vs number ≡ None
waiting-none [] number others = refl
waiting-none (v ∷ vs) number others =
    cond-false _ _ _ (ne_eqb v.number number (others 0 v (omega arith)))
    ∙ waiting-none vs number (λ k d low. others (suc k) d (omega arith))

-- the record that waits at the head, and past it
pub waiting-head : (v : Inode) (vs : List Inode) (number : ℕ) → v.number ≡ number → waiting_in (v ∷ vs) number ≡ Some v
waiting-head v vs number is = cond-true _ _ _ (eq-eqb v.number number is)

pub waiting-tail : (v : Inode) (vs : List Inode) (number : ℕ) → v.number ≢ number → waiting_in (v ∷ vs) number
    ≡ waiting_in vs number
waiting-tail v vs number other = cond-false _ _ _ (ne_eqb v.number number other)

-- another number's record waits still
pub waiting-without : (vs : List Inode) (number other : ℕ) → other ≢ number → waiting_in (without number vs) other
    ≡ waiting_in vs other
unfolding without
waiting-without [] number other apart = refl
waiting-without (v ∷ vs) number other apart = elim (cases_eq v.number number) [
  | inl is ↦ ap (λ ws. waiting_in ws other) (cond-true _ _ _ (eq-eqb v.number number is))
      ∙ sym (waiting-tail v vs other (λ e. apart (sym e ∙ is)))
  | inr ne ↦ ap (λ ws. waiting_in ws other) (cond-false _ _ _ (ne_eqb v.number number ne))
      ∙ (elim (cases_eq v.number other) as (λ _. waiting_in (v ∷ without number vs) other ≡ waiting_in (v ∷ vs) other) [
        | inl same ↦ waiting-head v (without number vs) other same ∙ sym (waiting-head v vs other same)
        | inr far ↦ waiting-tail v (without number vs) other far ∙ waiting-without vs number other apart
            ∙ sym (waiting-tail v vs other far)
      ])
]

-- so the others' records are those that waited, where those without this number's are
pub others_kept : (number : ℕ) (old new : List Inode) → without number new ≡ without number old
    → KeepsOtherRecords number old new
others_kept number old new same = λ n other. sym (waiting-without new number n other)
    ∙ ap (λ vs. waiting_in vs n) same ∙ waiting-without old number n other

-- twice
pub others_both : (number : ℕ) (a b c : List Inode) → KeepsOtherRecords number a b → KeepsOtherRecords number b c
    → KeepsOtherRecords number a c
others_both number a b c first second = λ n other. second n other ∙ first n other

pub waiting-staged : (v : Inode) (vs : List Inode) (other : ℕ) → other ≢ v.number
    → waiting_in (v ∷ without v.number vs) other ≡ waiting_in vs other
waiting-staged v vs other apart = waiting-tail v (without v.number vs) other (λ e. apart (sym e))
    ∙ waiting-without vs v.number other apart

-- where no number waits twice, none of this number is left
pub once_gone : (vs : List Inode) (number : ℕ) → AreOnce vs → waiting_in (without number vs) number ≡ None
unfolding without AreOnce
once_gone [] number once = refl
once_gone (v ∷ vs) number once = elim (cases_eq v.number number) [
  | inl is ↦ ap (λ ws. waiting_in ws number) (cond-true _ _ _ (eq-eqb v.number number is)) ∙ ap (waiting_in vs) (sym is)
      ∙ once.0
  | inr ne ↦ ap (λ ws. waiting_in ws number) (cond-false _ _ _ (ne_eqb v.number number ne))
      ∙ waiting-tail v (without number vs) number ne ∙ once_gone vs number once.1
]

pub once_without : (vs : List Inode) (number : ℕ) → AreOnce vs → AreOnce (without number vs)
unfolding without AreOnce
once_without [] number once = once
once_without (v ∷ vs) number once = elim (cases_eq v.number number) [
  | inl is ↦ subst AreOnce (sym (cond-true _ _ _ (eq-eqb v.number number is))) once.1
  | inr ne ↦ subst AreOnce (sym (cond-false _ _ _ (ne_eqb v.number number ne)))
      (waiting-without vs number v.number ne ∙ once.0, once_without vs number once.1)
]

pub once_staged : (v : Inode) (vs : List Inode) → AreOnce vs → AreOnce (v ∷ without v.number vs)
unfolding AreOnce
once_staged v vs once = (once_gone vs v.number once, once_without vs v.number once)

-- what holds of each holds still
pub all_without : (P : Inode → Type 0) (vs : List Inode) (number : ℕ) → All P vs → All P (without number vs)
unfolding without
all_without P [] number all = all
all_without P (v ∷ vs) number all = elim (cases_eq v.number number) [
  | inl is ↦ subst (All P) (sym (cond-true _ _ _ (eq-eqb v.number number is))) (All-tail P v vs all)
  | inr ne ↦ subst (All P) (sym (cond-false _ _ _ (ne_eqb v.number number ne)))
      (All-cons P v (without number vs) (All-head P v vs all) (all_without P vs number (All-tail P v vs all)))
]

pub length-without : (vs : List Inode) (number : ℕ) → length (without number vs) ≤ length vs
unfolding without
length-without [] number = omega arith
length-without (v ∷ vs) number = elim (cases_eq v.number number) [
  | inl is ↦ let e : length (without number (v ∷ vs))
      ≡ length vs = ap (λ (ws : List Inode). length ws) (cond-true _ _ _ (eq-eqb v.number number is)) in omega arith
  | inr ne ↦
      let e : length (without number (v ∷ vs))
      ≡ suc (length (without number vs)) = ap (λ (ws : List Inode). length ws)
      (cond-false _ _ _ (ne_eqb v.number number ne)) in
      let rest = length-without vs number in
      omega arith
]

-- at most one less
pub length-rest : (vs : List Inode) (number : ℕ) → length vs ≤ length (without number vs) + 1
unfolding without
length-rest [] number = omega arith
length-rest (v ∷ vs) number = elim (cases_eq v.number number) [
  | inl is ↦ let e : length (without number (v ∷ vs))
      ≡ length vs = ap (λ (ws : List Inode). length ws) (cond-true _ _ _ (eq-eqb v.number number is)) in omega arith
  | inr ne ↦
      let e : length (without number (v ∷ vs))
      ≡ suc (length (without number vs)) = ap (λ (ws : List Inode). length ws)
      (cond-false _ _ _ (ne_eqb v.number number ne)) in
      let rest = length-rest vs number in
      omega arith
]

-- one less where the number waits
pub length-less : (vs : List Inode) (number : ℕ) → IsSome (waiting_in vs number) → length (without number vs) + 1
    ≡ length vs
unfolding without
length-less [] number waits = absurd (cc)
length-less (v ∷ vs) number waits = elim (cases_eq v.number number) [
  | inl is ↦ let e : length (without number (v ∷ vs))
      ≡ length vs = ap (λ (ws : List Inode). length ws) (cond-true _ _ _ (eq-eqb v.number number is)) in omega arith
  | inr ne ↦
      let e : length (without number (v ∷ vs))
      ≡ suc (length (without number vs)) = ap (λ (ws : List Inode). length ws)
      (cond-false _ _ _ (ne_eqb v.number number ne)) in
      let rest = length-less vs number (subst IsSome (waiting-tail v vs number ne) waits) in
      omega arith
]

-- the others, where a record was put first
pub without-staged : (v : Inode) (vs : List Inode) → without v.number (v ∷ vs) ≡ vs
unfolding without
without-staged v vs = cond-true _ _ _ (eq-eqb v.number v.number refl)
