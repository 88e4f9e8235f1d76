-- The addresses that a shorter record keeps: `cut_roots` for `Inode::cut`, `kept_roots-all` for lfs_staging. An address
-- of the fourteen is kept if the first block that it leads to lies below the new end: the twelve direct ones by their
-- place, the single root if it is past 12, the double root if it is past 140 (`first_at`). So each of them is compared
-- at its place, and where those past the end are none already, nothing changes.
use Rattle.std.proofs.Common.{◌≡◌, ℕ, ◌<◌, ◌≤◌, List, [], ◌∷◌, ◌++◌, ◌∙◌, sym, ap, inl, inr, length, slice_index, arith}
use Rattle.std.specs.Prelude.{if◌then◌else◌, nat_lt}
use Rattle.std.proofs.lemmas.Bool.{cases_eq, cases_lt, cond-false, cond-true, le-ltb, lt-ltb, ne_eqb}
use Rattle.std.proofs.lemmas.List.{ext_get_or, get_or_append_left, get_or-append_right, length-append}
use Rattle.std.proofs.lemmas.List.FromFn.{length-map-range_with_len, get_or-map-range_with_len}
use Rattle.lfs_inodes.specs.declared.inode.Inode.{Inode}
use Rattle.lfs_inodes.specs.Addresses.{addresses, first_at, kept_roots, zeroed_from}
use Rattle.lfs_inodes.proofs.AddressLemmas.{slice_index-direct, slice_index-double, slice_index-single}
use Rattle.lfs_inodes.proofs.ZeroedLemmas.{length-zeroed_from, slice_index-zeroed_below, slice_index-zeroed_from}

kept_roots-is : (n : ℕ) (xs ys : List ℕ) → length ys ≡ 14
    → ((k : ℕ) → k < 14 → slice_index ys k ≡ (if nat_lt (first_at k) n then slice_index xs k else 0))
    → ys ≡ kept_roots n xs
unfolding kept_roots
kept_roots-is n xs ys long each =
    ext_get_or 0 ys (kept_roots n xs) (long ∙ sym
    (length-map-range_with_len (λ k. if nat_lt (first_at k) n then slice_index xs k else 0) 0 14))
    (λ k lt. each k (omega arith) ∙ sym (get_or-map-range_with_len (λ j. if nat_lt (first_at j) n then slice_index xs j
    else 0) 0 14 k k 0 (omega arith) (omega arith)))

-- an address that stands behind none below a place
first_other : (k n : ℕ) (a : ℕ) → k < 13 → (if nat_lt (first_at k) n then a else 0) ≡ (if nat_lt k n then a else 0)
first_other k n a lt = ap (λ m. if nat_lt m n then a else 0) (cond-false _ _ _ (ne_eqb k 13 (λ e. omega arith)))

direct_kept : (xs : List ℕ) (n k : ℕ) → slice_index (zeroed_from n xs) k ≡ (if nat_lt k n then slice_index xs k else 0)
direct_kept xs n k = elim (cases_lt k n) [
  | inl low ↦ slice_index-zeroed_below n xs k low ∙ sym (cond-true _ _ _ (lt-ltb k n low))
  | inr high ↦ slice_index-zeroed_from n xs k high ∙ sym (cond-false _ _ _ (le-ltb k n high))
]

pub cut_roots : (v : Inode) (direct : List ℕ) (single double n : ℕ) → direct ≡ zeroed_from n v.direct → single
    ≡ (if nat_lt 12 n then v.single else 0) → double ≡ (if nat_lt 140 n then v.double else 0)
    → direct ++ single ∷ double ∷ [] ≡ kept_roots n (addresses v)
cut_roots v direct single double n is_direct is_single is_double =
    let long : length direct ≡ 12 = ap length is_direct ∙ length-zeroed_from n v.direct ∙ v.whole in
    kept_roots-is n (addresses v) (direct ++ single ∷ double ∷ [])
    (omega (arith, long, length-append direct (single ∷ double ∷ []))) (λ k lt. elim (cases_lt k 12) [
      | inl low ↦
          get_or_append_left direct (single ∷ double ∷ []) 0 k (omega arith) ∙ ap (λ xs. slice_index xs k) is_direct
          ∙ direct_kept v.direct n k
          ∙ ap (λ a. if nat_lt k n then a else 0) (sym (slice_index-direct v k low))
          ∙ sym (first_other k n (slice_index (addresses v) k) (omega arith))
      | inr past ↦ elim (cases_eq k 12) [
        | inl same ↦ rw same (get_or-append_right direct (single ∷ double ∷ []) 12 12 0 long (omega arith) ∙ is_single
            ∙ ap (λ a. if nat_lt 12 n then a else 0) (sym (slice_index-single v)))
        | inr ne ↦
            let last : k ≡ 13 = omega arith in
            rw last (get_or-append_right direct (single ∷ double ∷ []) 12 13 0 long (omega arith) ∙ is_double
            ∙ ap (λ a. if nat_lt 140 n then a else 0) (sym (slice_index-double v)))
      ]
    ])

-- where those past it are none, all are kept
pub kept_roots-all : (n : ℕ) (xs : List ℕ) → length xs ≡ 14 → ((k : ℕ) → k < 14 → n ≤ first_at k → slice_index xs k ≡ 0)
    → kept_roots n xs ≡ xs
kept_roots-all n xs long none = sym (kept_roots-is n xs xs long (λ k lt. elim (cases_lt (first_at k) n) [
  | inl low ↦ sym (cond-true _ _ _ (lt-ltb (first_at k) n low))
  | inr past ↦ none k lt past ∙ sym (cond-false _ _ _ (le-ltb (first_at k) n past))
]))
