-- Addresses stand side by side in a block: a write of one changes one (`numbers-put`), and blocks with the same
-- addresses are the same (`numbers-one`), for `with_entry` and `with_address`. Four bytes each don't overlap, so a
-- block's other numbers stay; and a file's block is looked up in just one table (direct, single or a child), so one
-- cell changes one block's address (`address_of-single`, `address_of-child`). With a child the others of the double
-- indirect block are left out (SameChild), as they stand in other blocks; other counts of direct or indirect addresses
-- change all cases here.
use Rattle.std.proofs.Common.{◌≡◌, ◌≢◌, ℕ, ◌+◌, ◌-◌, ◌*◌, ◌/◌, ◌%◌, ◌<◌, ◌≤◌, List, cond, eqb, length, get_or, set}
use Rattle.std.proofs.Common.{slice_index, refl, sym, ap, ◌∙◌, arith, inl, inr}
use Rattle.std.proofs.lemmas.Bool.{cases_lt, cases_eq, lt-ltb, le-ltb, eq-eqb, ne_eqb}
use Rattle.std.proofs.lemmas.List.{ext_get_or, length-set, get_or-set_same, get_or-set_other}
use Rattle.std.proofs.lemmas.List.FromFn.{length-map-range_with_len, get_or-map-range_with_len}
use Rattle.lfs_inodes.specs.Bytes.{number_at, AreBytes, SameBetween, Puts}
use Rattle.lfs_inodes.specs.declared.inode.Inode.{Inode}
use Rattle.lfs_inodes.specs.Addresses.{SameChild, numbers, cells, address_of}
use Rattle.lfs_inodes.proofs.Numbers.{number_at-one}
use Rattle.lfs_inodes.proofs.Grammar.{number_at-within, SameBetween-cells}

pub length-numbers : (bytes : List ℕ) (at count : ℕ) → length (numbers bytes at count) ≡ count
unfolding numbers
length-numbers bytes at count = length-map-range_with_len (λ k. number_at bytes (at + 4 * k) 4) 0 count

pub slice_index-numbers : (bytes : List ℕ) (at count k : ℕ) → k < count → slice_index (numbers bytes at count) k
    ≡ number_at bytes (at + 4 * k) 4
unfolding numbers
slice_index-numbers bytes at count k lt =
    get_or-map-range_with_len (λ j. number_at bytes (at + 4 * j) 4) 0 count k k 0 lt (omega arith)

-- the same for numbers from the first byte on
pub slice_index-cells : (bytes : List ℕ) (count k : ℕ) → k < count → slice_index (numbers bytes 0 count) k
    ≡ number_at bytes (4 * k) 4
slice_index-cells bytes count k lt =
    let e : 0 + 4 * k ≡ 4 * k = omega arith in
    slice_index-numbers bytes 0 count k lt ∙ ap (λ (i : ℕ). number_at bytes i 4) e

-- a write of one number changes one number
number_at-beside : (old new : List ℕ) (i x k : ℕ) → Puts old new (4 * i) 4 x → 4 * k + 4 ≤ length old → k ≢ i
    → number_at new (4 * k) 4 ≡ number_at old (4 * k) 4
number_at-beside old new i x k p room ne = elim (cases_lt k i) [
  | inl below ↦ number_at-within new old 0 (4 * i) (4 * k) 4 p.below (omega arith) (omega arith)
  | inr above ↦ number_at-within new old (4 * i + 4) (length old) (4 * k) 4 p.above (omega arith) room
]

pub numbers-put : (count : ℕ) (old new : List ℕ) (i x : ℕ) → Puts old new (4 * i) 4 x → 4 * count ≤ length old
    → i < count → numbers new 0 count ≡ set (numbers old 0 count) i x
numbers-put count old new i x p room lt =
    ext_get_or 0 (numbers new 0 count) (set (numbers old 0 count) i x) same_length each
  where
    same_length : length (numbers new 0 count) ≡ length (set (numbers old 0 count) i x)
    same_length = length-numbers new 0 count ∙ sym (length-set (numbers old 0 count) i x ∙ length-numbers old 0 count)

    here : get_or (numbers new 0 count) i 0 ≡ get_or (set (numbers old 0 count) i x) i 0
    here =
        slice_index-cells new count i lt ∙ p.written
        ∙ sym (get_or-set_same (numbers old 0 count) i x 0 (omega (arith, length-numbers old 0 count)))

    there : (k : ℕ) → k < count → k ≢ i → get_or (numbers new 0 count) k 0 ≡ get_or (set (numbers old 0 count) i x) k 0
    there k within ne =
        slice_index-cells new count k within
        ∙ number_at-beside old new i x k p (omega arith) ne
        ∙ sym (get_or-set_other (numbers old 0 count) i k x 0 ne ∙ slice_index-cells old count k within)

    each : (k : ℕ) → k < length (numbers new 0 count) → get_or (numbers new 0 count) k 0
        ≡ get_or (set (numbers old 0 count) i x) k 0
    each k within = elim (cases_eq k i) [
      | inl e ↦ rw e here
      | inr ne ↦ there k (omega (arith, length-numbers new 0 count)) ne
    ]

-- bytes that spell the same numbers are the same
pub numbers-one : (count : ℕ) (xs ys : List ℕ) → AreBytes xs → AreBytes ys → length xs ≡ 4 * count → length ys
    ≡ 4 * count → numbers xs 0 count ≡ numbers ys 0 count → xs ≡ ys
numbers-one count xs ys p q long same_long e =
    ext_get_or 0 xs ys (long ∙ sym same_long) (λ k lt. whole k (omega arith) (omega arith))
  where
    whole : SameBetween xs ys 0 (0 + 4 * count)
    whole = SameBetween-cells xs ys 0 count (λ k lt.
        let same : number_at xs (4 * k) 4 ≡ number_at ys (4 * k) 4 =
        sym (slice_index-cells xs count k lt) ∙ ap (λ (ns : List ℕ). slice_index ns k) e
        ∙ slice_index-cells ys count k lt in
        let at : 0 + 4 * k ≡ 4 * k = omega arith in
        rw at (number_at-one xs ys (4 * k) 4 p q same))

-- reading after one cell of a block was replaced
cell-set : (old new : List ℕ) (j k x : ℕ) → j < 128 → cells new ≡ set (cells old) j x → slice_index (cells new) k
    ≡ cond (eqb k j) x (slice_index (cells old) k)
cell-set old new j k x lt e = elim (cases_eq k j) [
  | inl same ↦ rw (same, eq-eqb j j refl) (ap (λ (ns : List ℕ). slice_index ns j) e
      ∙ get_or-set_same (cells old) j x 0 (omega (arith, length-numbers old 0 128)))
  | inr other ↦ rw (ne_eqb k j other) (ap (λ (ns : List ℕ). slice_index ns k) e
      ∙ get_or-set_other (cells old) j k x 0 other)
]

-- one cell is that of another block where its place is
same_test : (j k m n : ℕ) → (j ≡ k → m ≡ n) → (m ≡ n → j ≡ k) → eqb j k ≡ eqb m n
same_test j k m n to from = elim (cases_eq m n) [
  | inl same ↦ eq-eqb j k (from same) ∙ sym (eq-eqb m n same)
  | inr other ↦ ne_eqb j k (λ e. other (to e)) ∙ sym (ne_eqb m n other)
]

-- reading after one address of the single indirect block was replaced
pub address_of-single : (v : Inode) (old new child : List ℕ) (n x m : ℕ) → 12 ≤ n → n < 140 → cells new
    ≡ set (cells old) (n - 12) x
    → address_of v new child m ≡ cond (eqb m n) x (address_of v old child m)
address_of-single v old new child n x m low high e = elim (cases_lt m 12) [
  | inl direct ↦ rw (ne_eqb m n (λ same. omega arith), lt-ltb m 12 direct) refl
  | inr indirect ↦ elim (cases_lt m 140) [
    | inl under ↦
        rw (le-ltb m 12 indirect, lt-ltb m 140 under)
        (cell-set old new (n - 12) (m - 12) x (omega arith) e
        ∙ ap (λ b. cond b x (slice_index (cells old) (m - 12)))
        (same_test (m - 12) (n - 12) m n (λ same. omega arith) (λ same. omega arith)))
    | inr behind ↦ rw (ne_eqb m n (λ same. omega arith), le-ltb m 12 indirect, le-ltb m 140 behind) refl
  ]
]

-- reading after one address of a child was replaced, below it or outside the double indirect block
pub address_of-child : (v : Inode) (single old new : List ℕ) (n x m : ℕ) → 140 ≤ n → SameChild m n → cells new
    ≡ set (cells old) ((n - 140) % 128) x
    → address_of v single new m ≡ cond (eqb m n) x (address_of v single old m)
address_of-child v single old new n x m high shared e = elim (cases_lt m 140) [
  | inl before ↦ rw (ne_eqb m n (λ same. omega arith), lt-ltb m 140 before) refl
  | inr behind ↦
      let child : (m - 140) / 128 ≡ (n - 140) / 128 = shared behind high in
      rw (le-ltb m 12 (omega arith), le-ltb m 140 behind)
      (cell-set old new ((n - 140) % 128) ((m - 140) % 128) x (omega arith) e
      ∙ ap (λ b. cond b x (slice_index (cells old) ((m - 140) % 128)))
      (same_test ((m - 140) % 128) ((n - 140) % 128) m n (λ same. omega arith) (λ same. omega arith)))
]
