-- How many frames and records wait: `part_most` for TakenLemmas and CountingLemmas, `once_numbers` for GivingLemmas and
-- RecordsLemmas. A list whose keys differ, each of them in another list, is no longer than that: each is taken out of
-- the other list in turn, which gets shorter by one at least (`without_less`). The limits of what may wait stand on
-- this; it needs that no key waits twice.
use Rattle.std.proofs.Common.{◌≡◌, ℕ, ◌+◌, ◌≤◌, List, [], ◌∷◌, length, None, Some, IsSome, is_some, false, refl}
use Rattle.std.proofs.Common.{sym, ap, ◌∙◌, subst, inl, inr, arith}
use Rattle.std.proofs.lemmas.Bool.{cond-true, cond-false, false≢true, cases_eq}
use Rattle.std.proofs.lemmas.Option.{none-some}
use Rattle.lfs_inodes.specs.declared.inode.Inode.{Inode}
use Rattle.lfs_cache.specs.declared.key.Key.{Key}
use Rattle.lfs_cache.specs.Contents.{AreApart, Lacks, block_in, keys_of, without_key}
use Rattle.lfs_cache.specs.Keys.{same_key}
use Rattle.lfs_cache.proofs.CallerLemmas.{block_other}
use Rattle.lfs_cache.proofs.Entries.{same_cases, same_is, same_self}
use Rattle.lfs_parts.specs.Waiting.{numbers_of}
use Rattle.lfs_parts.specs.View.{waiting_in}
use Rattle.lfs_parts.specs.Waiting.{AreOnce}
use Rattle.lfs_parts.proofs.WaitingLemmas.{waiting-head, waiting-tail}
use Rattle.lfs_cache.proofs.ChangeLemmas.{without_shorter}

-- ---- frames
without_less : (k : Key) (es : List (Key × List ℕ)) → IsSome (block_in k es) → length (without_key k es) + 1 ≤ length es
without_less k [] there = absurd (cc)
without_less k (e ∷ es) there = elim (same_cases e.0 k) [
  | inl same ↦ let is : length (without_key k (e ∷ es))
      ≡ length (without_key k es) = ap length (cond-true _ _ _ same) in let rest = without_shorter k es in omega arith
  | inr apart ↦
      let is : length (without_key k (e ∷ es)) ≡ length (without_key k es) + 1 = ap length (cond-false _ _ _ apart)
      ∙ omega arith in
      let rest = without_less k es (subst IsSome (cond-false _ _ _ apart) there) in
      omega arith
]

-- a key of a list is none that the list lacks
lacks_apart : (n k : Key) (es : List (Key × List ℕ)) → Lacks n (keys_of es) → IsSome (block_in k es) → same_key n k
    ≡ false
lacks_apart n k [] lacks there = absurd (cc)
lacks_apart n k (e ∷ es) lacks there = elim (same_cases e.0 k) [
  | inl same ↦
      let one : e.0 ≡ k = same_is e.0 k same in
      elim (same_cases n k) [
        | inl bad ↦ absurd (false≢true (sym lacks.0 ∙ ap (same_key e.0) (same_is n k bad ∙ sym one) ∙ same_self e.0))
        | inr apart ↦ apart
      ]
  | inr apart ↦ lacks_apart n k es lacks.1 (subst IsSome (cond-false _ _ _ apart) there)
]

-- a list whose keys are apart and stand in another list is no longer
pub part_most : (xs ys : List (Key × List ℕ)) → AreApart (keys_of xs)
    → ((k : Key) → IsSome (block_in k xs) → IsSome (block_in k ys)) → length xs ≤ length ys
part_most [] ys apart there = omega arith
part_most (e ∷ es) ys apart there =
    let here : IsSome (block_in e.0 ys) = there e.0 (ap is_some (cond-true _ _ _ (same_self e.0))) in
    let less = without_less e.0 ys here in
    let rest = part_most es (without_key e.0 ys) apart.1 (λ k in_rest.
    let other = lacks_apart e.0 k es apart.0 in_rest in
    subst IsSome (sym (block_other e.0 k ys other)) (there k (subst IsSome (sym (cond-false _ _ _ other)) in_rest))) in
    omega arith

-- ---- records
-- the record that waits of a number has the number
pub waiting_number : (vs : List Inode) (number : ℕ) (v : Inode) → waiting_in vs number ≡ Some v → v.number ≡ number
waiting_number [] number v is = absurd (none-some v is)
waiting_number (w ∷ vs) number v is = elim (cases_eq w.number number) [
  | inl same ↦ let one : w ≡ v = cc (sym (waiting-head w vs number same) ∙ is) in ap (λ (x : Inode). x.number) (sym one)
      ∙ same
  | inr other ↦ waiting_number vs number v (sym (waiting-tail w vs number other) ∙ is)
]

-- which numbers have a record that waits rests on the numbers alone
numbers_none : (xs ys : List Inode) (number : ℕ) → numbers_of ys ≡ numbers_of xs → waiting_in xs number ≡ None
    → waiting_in ys number ≡ None
numbers_none xs [] number same none = refl
numbers_none [] (w ∷ ys) number same none = absurd (cc)
numbers_none (v ∷ xs) (w ∷ ys) number same none =
    let first : w.number ≡ v.number = cc in
    let rest : numbers_of ys ≡ numbers_of xs = cc in
    elim (cases_eq v.number number) [
      | inl is ↦ absurd (none-some v (sym none ∙ waiting-head v xs number is))
      | inr other ↦ waiting-tail w ys number (λ e. other (sym first ∙ e))
          ∙ numbers_none xs ys number rest (sym (waiting-tail v xs number other) ∙ none)
    ]

pub once_numbers : (xs ys : List Inode) → numbers_of ys ≡ numbers_of xs → AreOnce xs → AreOnce ys
unfolding AreOnce
once_numbers xs [] same once = tt
once_numbers [] (w ∷ ys) same once = absurd (cc)
once_numbers (v ∷ xs) (w ∷ ys) same once =
    let first : w.number ≡ v.number = cc in
    let rest : numbers_of ys ≡ numbers_of xs = cc in
    (ap (waiting_in ys) first ∙ numbers_none xs ys v.number rest once.0, once_numbers xs ys rest once.1)
