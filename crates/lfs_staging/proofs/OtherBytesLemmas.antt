-- A cache with other bytes for a key that waits has each other key's block as it was (`bytes_here`, `bytes_other`,
-- `bytes_only`, `bytes_formed`), and an indirect block with four bytes zeroed has one address less
-- (`cells-four_zeros`): for EmptiedLemmas alone. By induction on the entries, of which at most one has the key; the
-- numbers of a table stand side by side, so four zeros reach no other one. No code makes such a cache: it stands in
-- proofs in place of addresses that aren't written any more.
use Rattle.std.proofs.Common.{◌≡◌, ◌≢◌, ◌⊎◌, ℕ, ◌+◌, ◌*◌, ◌<◌, ◌≤◌, suc, List, [], ◌∷◌, ◌++◌, length, set, slice_index}
use Rattle.std.proofs.Common.{Some, IsSome, is_some, false, cond, refl, sym, ap, ◌∙◌, subst, inl, inr, arith}
use Rattle.std.proofs.lemmas.Bool.{cases_eq, cases_lt}
use Rattle.std.proofs.lemmas.Option.{same_Some}
use Rattle.std.proofs.lemmas.List.{ext_get_or, get_or-set_same, get_or-set_other, length-set}
use Rattle.lfs_inodes.specs.Addresses.{cells}
use Rattle.lfs_inodes.proofs.Cells.{length-numbers, slice_index-cells}
use Rattle.lfs_inodes.proofs.Numbers.{number_at-same}
use Rattle.lfs_inodes.proofs.ZeroedLemmas.{number_at-zeros}
use Rattle.lfs_cache.specs.declared.key.Key.{Key}
use Rattle.lfs_cache.specs.Keys.{same_key}
use Rattle.lfs_cache.specs.Changes.{IsContents}
use Rattle.lfs_cache.specs.Contents.{AreApart, Contents, IsLocked, Lacks, block_in, block_of, keys_of, or_else}
use Rattle.lfs_cache.proofs.Entries.{same_cases, same_is}
use Rattle.lfs_parts.proofs.HeldLemmas.{locked_apart}

-- ---- a list of blocks by key
-- one of them with other bytes, where it is there
pub bytes_at : Key → List ℕ → List (Key × List ℕ) → List (Key × List ℕ)
bytes_at k b [] = []
bytes_at k b (e ∷ es) = (e.0, cond (same_key e.0 k) b e.1) ∷ bytes_at k b es

-- a cache in which other bytes wait for a key
abbrev pub with_bytes : Key → List ℕ → Contents → Contents
with_bytes k b c = record c { locked = bytes_at k b c.locked }

keys-bytes_at : (k : Key) (b : List ℕ) (ds es : List (Key × List ℕ)) → keys_of (bytes_at k b ds ++ es)
    ≡ keys_of (ds ++ es)
unfolding bytes_at
keys-bytes_at k b [] es = refl
keys-bytes_at k b (d ∷ ds) es = ap (λ ks. d.0 ∷ ks) (keys-bytes_at k b ds es)

pub length-bytes_at : (k : Key) (b : List ℕ) (es : List (Key × List ℕ)) → length (bytes_at k b es) ≡ length es
unfolding bytes_at
length-bytes_at k b [] = refl
length-bytes_at k b (e ∷ es) = ap suc (length-bytes_at k b es)

block_here : (k : Key) (b : List ℕ) (es : List (Key × List ℕ)) → IsSome (block_in k es) → block_in k (bytes_at k b es)
    ≡ Some b
unfolding bytes_at
block_here k b [] some = absurd (cc)
block_here k b (e ∷ es) some = elim (same_cases e.0 k) [
  | inl same ↦ ap (λ t. cond t (Some (cond t b e.1)) (block_in k (bytes_at k b es))) same
  | inr other ↦
      ap (λ t. cond t (Some (cond t b e.1)) (block_in k (bytes_at k b es))) other
      ∙ block_here k b es (subst IsSome (ap (λ t. cond t (Some e.1) (block_in k es)) other) some)
]

block_apart : (k other : Key) (b : List ℕ) (es : List (Key × List ℕ)) → same_key k other ≡ false
    → block_in other (bytes_at k b es) ≡ block_in other es
unfolding bytes_at
block_apart k other b [] apart = refl
block_apart k other b (e ∷ es) apart = elim (same_cases e.0 k) [
  | inl same ↦
      let far : same_key e.0 other ≡ false = ap (λ z. same_key z other) (same_is e.0 k same) ∙ apart in
      ap (λ t. cond t (Some (cond (same_key e.0 k) b e.1)) (block_in other (bytes_at k b es))) far
      ∙ block_apart k other b es apart
      ∙ sym (ap (λ t. cond t (Some e.1) (block_in other es)) far)
  | inr far ↦
      ap (λ t. cond (same_key e.0 other) (Some (cond t b e.1)) (block_in other (bytes_at k b es))) far
      ∙ ap (λ o. cond (same_key e.0 other) (Some e.1) o) (block_apart k other b es apart)
]

-- bytes that it has already change nothing
bytes_absent : (k : Key) (b : List ℕ) (es : List (Key × List ℕ)) → Lacks k (keys_of es) → bytes_at k b es ≡ es
unfolding bytes_at
bytes_absent k b [] lacks = refl
bytes_absent k b (e ∷ es) lacks = ap (λ t. (e.0, cond t b e.1) ∷ bytes_at k b es) lacks.0
    ∙ ap (λ ds. e ∷ ds) (bytes_absent k b es lacks.1)

bytes_own : (k : Key) (b : List ℕ) (es : List (Key × List ℕ)) → AreApart (keys_of es) → block_in k es ≡ Some b
    → bytes_at k b es ≡ es
unfolding bytes_at
bytes_own k b [] apart is = refl
bytes_own k b (e ∷ es) apart is = elim (same_cases e.0 k) [
  | inl same ↦
      let own : e.1 ≡ b = same_Some e.1 b (sym (ap (λ t. cond t (Some e.1) (block_in k es)) same) ∙ is) in
      ap (λ t. (e.0, cond t b e.1) ∷ bytes_at k b es) same ∙ ap (λ x. (e.0, x) ∷ bytes_at k b es) (sym own)
      ∙ ap (λ ds. e ∷ ds) (bytes_absent k b es (subst (λ z. Lacks z (keys_of es)) (same_is e.0 k same) apart.0))
  | inr other ↦
      ap (λ t. (e.0, cond t b e.1) ∷ bytes_at k b es) other
      ∙ ap (λ ds. e ∷ ds) (bytes_own k b es apart.1 (sym (ap (λ t. cond t (Some e.1) (block_in k es)) other) ∙ is))
]

-- ---- a cache
pub bytes_here : (k : Key) (b : List ℕ) (c : Contents) → IsLocked k c → block_in k (with_bytes k b c).locked ≡ Some b
bytes_here k b c locked = block_here k b c.locked locked

pub bytes_other : (k other : Key) (b : List ℕ) (c : Contents) → same_key k other ≡ false
    → block_in other (with_bytes k b c).locked ≡ block_in other c.locked
bytes_other k other b c apart = block_apart k other b c.locked apart

pub bytes_same : (k : Key) (b : List ℕ) (c : Contents) → IsContents c → block_in k c.locked ≡ Some b → with_bytes k b c
    ≡ c
bytes_same k b c formed is = ap (λ es. record c { locked = es }) (bytes_own k b c.locked (locked_apart c formed) is)

-- what waits waits
pub bytes_locked : (k other : Key) (b : List ℕ) (c : Contents) → IsLocked k c → IsLocked other c
    → IsLocked other (with_bytes k b c)
bytes_locked k other b c here locked = elim (same_cases k other) [
  | inl same ↦ subst (λ z. IsLocked z (with_bytes k b c)) (same_is k other same) (ap is_some (bytes_here k b c here))
  | inr apart ↦ ap is_some (bytes_other k other b c apart) ∙ locked
]

-- and nothing else does
pub bytes_only : (k other : Key) (b : List ℕ) (c : Contents) → IsLocked k c → IsLocked other (with_bytes k b c)
    → IsLocked other c
bytes_only k other b c here locked = elim (same_cases k other) [
  | inl same ↦ subst (λ z. IsLocked z c) (same_is k other same) here
  | inr apart ↦ sym (ap is_some (bytes_other k other b c apart)) ∙ locked
]

pub bytes_formed : (k : Key) (b : List ℕ) (c : Contents) → IsContents c → IsLocked k c → length b ≡ 512
    → IsContents (with_bytes k b c)
bytes_formed k b c formed here whole = record {
  apart = subst AreApart (sym (keys-bytes_at k b c.locked c.lru)) formed.apart;
  sized = λ key block is. elim (same_cases k key) [
    | inl same ↦
        let there : block_of k (with_bytes k b c)
        ≡ Some b = ap (λ o. or_else o (block_in k c.lru)) (bytes_here k b c here) in
        let one = same_Some block b (sym is ∙ ap (λ z. block_of z (with_bytes k b c)) (sym (same_is k key same))
        ∙ there) in
        ap length one ∙ whole
    | inr apart ↦ formed.sized key block (sym (ap (λ o. or_else o (block_in key c.lru)) (bytes_other k key b c apart))
        ∙ is)
  ];
  limit = let same = length-bytes_at k b c.locked in let few = formed.limit in omega arith;
}

-- ---- an indirect block without one of its addresses
-- a list of bytes with zeros at four places
pub four_zeros : ℕ → List ℕ → List ℕ
four_zeros at xs = set (set (set (set xs at 0) (at + 1) 0) (at + 2) 0) (at + 3) 0

pub length-four_zeros : (at : ℕ) (xs : List ℕ) → length (four_zeros at xs) ≡ length xs
unfolding four_zeros
length-four_zeros at xs =
    length-set (set (set (set xs at 0) (at + 1) 0) (at + 2) 0) (at + 3) 0
    ∙ length-set (set (set xs at 0) (at + 1) 0) (at + 2) 0
    ∙ length-set (set xs at 0) (at + 1) 0 ∙ length-set xs at 0

zero_set : (xs : List ℕ) (i k : ℕ) → k < length xs → (k ≢ i → slice_index xs k ≡ 0) → slice_index (set xs i 0) k ≡ 0
zero_set xs i k inside rest = elim (cases_eq k i) [
  | inl same ↦ ap (slice_index (set xs i 0)) same ∙ get_or-set_same xs i 0 0 (omega arith)
  | inr other ↦ get_or-set_other xs i k 0 0 other ∙ rest other
]

zero_within : (at k : ℕ) (xs : List ℕ) → at + 4 ≤ length xs → at ≤ k → k < at + 4 → slice_index (four_zeros at xs) k ≡ 0
unfolding four_zeros
zero_within at k xs room from low =
    let a = set xs at 0 in let b = set a (at + 1) 0 in let c = set b (at + 2) 0 in
    let la : length a ≡ length xs = length-set xs at 0 in
    let lb : length b ≡ length xs = length-set a (at + 1) 0 ∙ la in
    let lc : length c ≡ length xs = length-set b (at + 2) 0 ∙ lb in
    zero_set c (at + 3) k (omega arith) (λ n3. zero_set b (at + 2) k (omega arith)
    (λ n2. zero_set a (at + 1) k (omega arith) (λ n1. zero_set xs at k (omega arith) (λ n0. absurd (omega arith)))))

same_without : (at k : ℕ) (xs : List ℕ) → (k < at) ⊎ (at + 4 ≤ k) → slice_index (four_zeros at xs) k ≡ slice_index xs k
unfolding four_zeros
same_without at k xs out =
    let a = set xs at 0 in let b = set a (at + 1) 0 in let c = set b (at + 2) 0 in
    let far : (d : ℕ) → d < 4 → k ≢ at + d =
    λ d low e. elim out [ inl before ↦ omega arith | inr past ↦ omega arith ] in
    get_or-set_other c (at + 3) k 0 0 (far 3 (omega arith)) ∙ get_or-set_other b (at + 2) k 0 0 (far 2 (omega arith))
    ∙ get_or-set_other a (at + 1) k 0 0 (far 1 (omega arith))
    ∙ get_or-set_other xs at k 0 0 (λ e. far 0 (omega arith) (omega arith))

-- its addresses, of which that one is none
pub cells-four_zeros : (j : ℕ) (xs : List ℕ) → j < 128 → length xs ≡ 512 → cells (four_zeros (4 * j) xs)
    ≡ set (cells xs) j 0
cells-four_zeros j xs low whole = ext_get_or 0 (cells ys) (set (cells xs) j 0) same_length each
  where
    ys : List ℕ
    ys = four_zeros (4 * j) xs

    same_length : length (cells ys) ≡ length (set (cells xs) j 0)
    same_length = length-numbers ys 0 128 ∙ sym (length-set (cells xs) j 0 ∙ length-numbers xs 0 128)

    each : (k : ℕ) → k < length (cells ys) → slice_index (cells ys) k ≡ slice_index (set (cells xs) j 0) k
    each k within =
        let inside : k < 128 = omega (arith, length-numbers ys 0 128, within) in
        elim (cases_eq k j) [
          | inl same ↦
              slice_index-cells ys 128 k inside
              ∙ number_at-zeros ys (4 * k) (λ i from end. zero_within (4 * j) i xs (omega arith) (omega arith)
              (omega arith))
              ∙ sym (ap (slice_index (set (cells xs) j 0)) same
              ∙ get_or-set_same (cells xs) j 0 0 (omega (arith, length-numbers xs 0 128)))
          | inr other ↦
              slice_index-cells ys 128 k inside
              ∙ number_at-same ys xs (4 * k) 4 (λ i from end. same_without (4 * j) i xs
              (elim (cases_lt k j) [ inl less ↦ inl (omega arith) | inr more ↦ inr (omega arith) ]))
              ∙ sym (slice_index-cells xs 128 k inside) ∙ sym (get_or-set_other (cells xs) j k 0 0 other)
        ]
