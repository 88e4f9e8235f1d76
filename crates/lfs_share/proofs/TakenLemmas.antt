-- No more bytes are live than the files of the content take by their lengths (`live_few`), for `restoring::restore`.
-- The live bytes of all segments are those of all keys that have a place, summed in another order; and a file's keys
-- that have one are its record and blocks that lead to data below its size.
use Rattle.std.proofs.Common.{◌≡◌, ◌≢◌, ◌⊎◌, ℕ, zero, suc, ◌+◌, ◌-◌, ◌*◌, ◌/◌, ◌<◌, ◌≤◌, Option, Some, None, length, refl}
use Rattle.std.proofs.Common.{sym, ap, ◌∙◌, inl, inr, arith, false, is_some}
use Rattle.std.specs.Prelude.{if◌then◌else◌, ◌==◌, nat_lt}
use Rattle.std.specs.FinMap as map
use Rattle.std.proofs.lemmas.Bool.{cases_Bool, cases_eq, cases_lt, cond-true, cond-false, eq-eqb, false≢true, ne_eqb}
use Rattle.std.proofs.lemmas.Bool.{lt-ltb, le-ltb}
use Rattle.lfs_inodes.specs.Facts.{block_count}
use Rattle.lfs_inodes.specs.Reading.{Fields}
use Rattle.lfs_ifile.specs.Tables.{row_of}
use Rattle.lfs_bmap.specs.declared.blocks.FileBlock.{FileBlock}
use Rattle.lfs_bmap.specs.declared.blocks.FileBlock.TheVariants.{Single, Double, Child, Data}
use Rattle.lfs_bmap.specs.declared.blocks.TheConstants.{BLOCK_CODES}
use Rattle.lfs_bmap.specs.Blocks.{IsFileBlock, code_of, first_under}
use Rattle.lfs_bmap.specs.Counting.{live_bytes, seg_of, total, units, weight_of}
use Rattle.lfs_bmap.specs.Reading.{address, data_block}
use Rattle.lfs_bmap.specs.Ways.{way_of}
use Rattle.lfs_bmap.proofs.CountingLemmas.{total-same, total-zero, weight-elsewhere, weight-here, weight-none}
use Rattle.lfs_bmap.proofs.PieceLemmas.{file_bytes-length}
use Rattle.lfs_bmap.proofs.WayLemmas.{way_of-code_of}
use Rattle.lfs_parts.specs.declared.parts.Parts.{Parts}
use Rattle.lfs_parts.specs.Files.{content_of, file_with}
use Rattle.lfs_parts.specs.Keys.{log_state}
use Rattle.lfs_parts.specs.Store.{IsFile, IsStore}
use Rattle.lfs_parts.specs.View.{record_of, tree_of}
use Rattle.lfs_parts.proofs.FileLemmas.{file_at-some, free_place, get-content_of}
use Rattle.lfs_parts.proofs.KeyLemmas.{place-block, unused_nowhere}
use Rattle.lfs_segwrite.proofs.GainLemmas.{total_more}
use Rattle.lfs_share.specs.Share.{live_total, taken, tables_of, units_of_file, units_of_length}

-- ---- sums
pub total_le : (f g : ℕ → ℕ) (n : ℕ) → ((k : ℕ) → k < n → f k ≤ g k) → total f n ≤ total g n
unfolding total
total_le f g zero h = omega arith
total_le f g (suc n) h =
    let last = h n (omega arith) in
    let rest = total_le f g n (λ k low. h k (omega arith)) in
    omega arith

pub total_add : (f g : ℕ → ℕ) (n : ℕ) → total (λ k. f k + g k) n ≡ total f n + total g n
unfolding total
total_add f g zero = refl
total_add f g (suc n) = let rest = total_add f g n in omega arith

total_times : (f : ℕ → ℕ) (n : ℕ) → total (λ k. 128 * f k) n ≡ 128 * total f n
unfolding total
total_times f zero = refl
total_times f (suc n) = let rest = total_times f n in omega arith

-- the sum of sums in the other order
none_total : (n : ℕ) → 0 ≡ total (λ j. 0) n
none_total n = sym (total-zero (λ j. 0) n (λ k low. refl))

swapped : (f : ℕ → ℕ → ℕ) (m n : ℕ) → total (λ i. total (f i) n) m ≡ total (λ j. total (λ i. f i j) m) n
unfolding total
swapped f zero n = none_total n
swapped f (suc m) n =
    ap (λ rest. total (f m) n + rest) (swapped f m n) ∙ sym (total_add (f m) (λ j. total (λ i. f i j) m) n)

-- ---- the bytes of a key
abbrev key_bytes : ℕ → ℕ → ℕ
key_bytes place code = if place == 0 then 0 else 128 * units code

key_bytes-none : (place code : ℕ) → place ≡ 0 → key_bytes place code ≡ 0
key_bytes-none place code none = cond-true _ _ _ (eq-eqb place 0 none)

key_bytes-some : (place code : ℕ) → place ≢ 0 → key_bytes place code ≡ 128 * units code
key_bytes-some place code some = cond-false _ _ _ (ne_eqb place 0 some)

key_bytes-most : (place code : ℕ) → key_bytes place code ≤ 128 * units code
key_bytes-most place code = elim (cases_eq place 0) [
  | inl none ↦ let is = key_bytes-none place code none in omega arith
  | inr some ↦ let is = key_bytes-some place code some in omega arith
]

-- a place lies in one segment at most
one_segment : (place code segments : ℕ) → total (λ s. weight_of place s code) segments ≤ key_bytes place code
unfolding total
one_segment place code zero = omega arith
one_segment place code (suc s) = elim (cases_eq place 0) [
  | inl none ↦
      let now : weight_of place s code ≡ 0 = ap (λ q. weight_of q s code) none ∙ weight-none s code in
      let rest = one_segment place code s in
      omega arith
  | inr some ↦ elim (cases_eq (seg_of place) s) [
    | inl here ↦
        let now = weight-here place s code some here in
        let is = key_bytes-some place code some in
        let rest = total-zero (λ t. weight_of place t code) s (λ t low. weight-elsewhere place t code (λ e.
        omega (arith, e, here, low))) in
        omega arith
    | inr other ↦
        let now = weight-elsewhere place s code other in
        let rest = one_segment place code s in
        omega arith
  ]
]

-- ---- some codes in a row
-- Of these keys those below a bound have some bytes, at most 512, the others none.
ranged : (f : ℕ → ℕ) (base most n : ℕ) → ((k : ℕ) → k < n → (f (base + k) ≡ 0) ⊎ ((k < most) × (f (base + k) ≤ 512)))
    → (total f (base + n) ≤ total f base + 512 * n) × (total f (base + n) ≤ total f base + 512 * most)
ranged f base most zero each =
    let same : total f (base + 0) ≡ total f base = ap (total f) (let e : base + 0 ≡ base = omega arith in e) in
    (omega arith, omega arith)
ranged f base most (suc n) each =
    let next : base + suc n ≡ base + n + 1 = omega arith in
    let more : total f (base + suc n) ≡ f (base + n) + total f (base + n) = ap (total f) next ∙ total_more f (base + n) in
    let rest = ranged f base most n (λ k low. each k (omega arith)) in
    let before = rest.0 in
    let behind = rest.1 in
    elim (each n (omega arith)) [
      | inl none ↦ (omega arith, omega arith)
      | inr some ↦ let low = some.0 in let few = some.1 in (omega arith, omega arith)
    ]

first_three : (f : ℕ → ℕ) → total f 3 ≡ f 2 + (f 1 + (f 0 + 0))
unfolding total
first_three f = refl

-- the indirect blocks of a file, by where its last block stands
pub tables_cases : (blocks : ℕ) → ((140 < blocks) × (tables_of blocks ≡ 2 + (blocks - 140 + 127) / 128))
    ⊎ (((12 < blocks) × (blocks ≤ 140) × (tables_of blocks ≡ 1)) ⊎ ((blocks ≤ 12) × (tables_of blocks ≡ 0)))
tables_cases blocks = elim (cases_lt 140 blocks) [
  | inl far ↦ inl (
    far,
    cond-true {A = ℕ} _ (2 + (blocks - 140 + 127) / 128) (if nat_lt 12 blocks then 1 else 0)
        (lt-ltb 140 blocks far),
  )
  | inr near ↦
      let is = cond-false {A = ℕ} _ (2 + (blocks - 140 + 127) / 128) (if nat_lt 12 blocks then 1 else 0)
      (le-ltb 140 blocks near) in
      inr (elim (cases_lt 12 blocks) [
        | inl some ↦ inl (some, near, is ∙ cond-true {A = ℕ} _ 1 0 (lt-ltb 12 blocks some))
        | inr few ↦ inr (few, is ∙ cond-false {A = ℕ} _ 1 0 (le-ltb 12 blocks few))
      ])
]

tables_most : (blocks : ℕ) → ((140 < blocks) → tables_of blocks ≡ 2 + (blocks - 140 + 127) / 128)
    × ((12 < blocks) → 1 ≤ tables_of blocks)
tables_most blocks = elim (tables_cases blocks) [
  | inl far ↦ let is = far.1 in (λ h. is, λ h. omega arith)
  | inr near ↦ elim near [
    | inl some ↦ let low = some.1 in let is = some.2 in (λ h. absurd (omega arith), λ h. omega arith)
    | inr few ↦ let low = few.0 in (λ h. absurd (omega arith), λ h. absurd (omega arith))
  ]
]

pub tables_few : (blocks : ℕ) → 128 * tables_of blocks ≤ blocks + 256
tables_few blocks = elim (tables_cases blocks) [
  | inl far ↦ let some = far.0 in let is = far.1 in omega arith
  | inr near ↦ elim near [ inl some ↦ let is = some.2 in omega arith | inr few ↦ let is = few.1 in omega arith ]
]

-- more blocks have no fewer
pub tables_le : (a b : ℕ) → a ≤ b → tables_of a ≤ tables_of b
tables_le a b le = elim (tables_cases a) [
  | inl far ↦ let some = far.0 in let is = far.1 in let other = (tables_most b).0 (omega arith) in omega arith
  | inr near ↦ elim near [
    | inl one ↦ let some = one.0 in let is = one.2 in let other = (tables_most b).1 (omega arith) in omega arith
    | inr few ↦ let is = few.1 in omega arith
  ]
]

-- Keys of a file: the record has 128 bytes, and a block some only if it leads to data below a bound.
record OfFile (f : ℕ → ℕ) (blocks : ℕ) : Type 0 where
  first : f 0 ≤ 128
  block : (b : FileBlock) → IsFileBlock b → code_of b ≢ 0 → (f (code_of b) ≡ 0)
      ⊎ ((first_under b < blocks) × (f (code_of b) ≤ 512))

all_codes : (f : ℕ → ℕ) (blocks : ℕ) → OfFile f blocks → total f 16655 ≤ 128 * (1 + 4 * (blocks + tables_of blocks))
all_codes f blocks h =
    let three = first_three f in
    let first = h.first in
    let tables = tables_most blocks in
    let children : ℕ = (blocks - 140 + 127) / 128 in
    let behind : total f 16655 ≤ total f 131 + 512 * blocks = (ranged f 131 blocks 16524 (λ k low. h.block (Data k) low (λ e. omega (arith, e)))).1 in
    let middle : total f 131 ≤ total f 3 + 512 * children = (ranged f 3 children 128 (λ k low. elim (h.block (Child k) low (λ e. omega (arith, e))) [
      | inl none ↦ inl none
      | inr some ↦ let far = some.0 in inr (omega arith, some.1)
    ])).1 in
    elim (cases_lt 140 blocks) [
      | inl far ↦
          let two = tables.0 far in
          elim (h.block Single tt (λ e. omega (arith, e))) [
            | inl a ↦ elim (h.block Double tt (λ e. omega (arith, e))) [
              | inl b ↦ omega arith
              | inr b ↦ let few = b.1 in omega arith
            ]
            | inr a ↦ let most = a.1 in elim (h.block Double tt (λ e. omega (arith, e))) [
              | inl b ↦ omega arith
              | inr b ↦ let few = b.1 in omega arith
            ]
          ]
      | inr near ↦
          let none : children ≡ 0 = omega arith in
          elim (h.block Double tt (λ e. omega (arith, e))) [
            | inr b ↦ let bad = b.0 in absurd (omega arith)
            | inl b ↦ elim (h.block Single tt (λ e. omega (arith, e))) [
              | inl a ↦ omega arith
              | inr a ↦ let some = tables.1 a.0 in let most = a.1 in omega arith
            ]
          ]
    ]

-- ---- the keys of a number
module _ (p : Parts) (store : IsStore p) (number : ℕ) where
  abbrev bytes_of_code : ℕ → ℕ
  bytes_of_code code = key_bytes ((log_state p).at number code) code

  record_few : bytes_of_code 0 ≤ 128
  record_few = key_bytes-most ((log_state p).at number 0) 0

  -- no block has an address where no way leads to one
  without : (code : ℕ) → code ≢ 0 → address (tree_of p number) (way_of code) ≡ 0 → bytes_of_code code ≡ 0
  without code some none =
      key_bytes-none ((log_state p).at number code) code (place-block p number code some ∙ ap (λ a. 4 * a) none)

  block_few : (code : ℕ) → code ≢ 0 → bytes_of_code code ≤ 512
  block_few code some =
      let four : units code ≡ 4 = cond-false _ _ _ (ne_eqb code 0 some) in
      let most = key_bytes-most ((log_state p).at number code) code in
      omega arith

  of_file : (f : Fields) → IsFile p number f → OfFile bytes_of_code (block_count f.attributes.size)
  of_file f file = record {
    first = record_few;
    block = λ b is some. elim (cases_lt (first_under b) (block_count f.attributes.size)) [
      | inl low ↦ inr (low, block_few (code_of b) some)
      | inr past ↦ inl (without (code_of b) some (ap (address (tree_of p number)) (way_of-code_of b is)
          ∙ file.none_past b is past))
    ];
  }

  codes_few : (o : Option Fields) → record_of p number ≡ o → number < length p.log.tables.rows
      → total bytes_of_code BLOCK_CODES ≤ 128 * units_of_file (map.get (content_of p) number)
  codes_few (Some f) is low =
      let file = store.whole.files number f is in
      let size : length (file_with (tree_of p number) f).bytes ≡ f.attributes.size =
      file_bytes-length (data_block (tree_of p number)) file.padded.whole f.attributes.size in
      let at : map.get (content_of p) number ≡ Some (file_with (tree_of p number) f) = get-content_of p number
      ∙ file_at-some p number f is in
      let same : units_of_file (map.get (content_of p) number) ≡ units_of_length f.attributes.size = ap units_of_file at
      ∙ ap units_of_length size in
      let few = all_codes bytes_of_code (block_count f.attributes.size) (of_file f file) in
      omega arith
  codes_few None is low =
      let free : (row_of p.log.tables number).used ≡ false = elim (cases_Bool (row_of p.log.tables number).used) [
        | inl used ↦ absurd (false≢true (ap is_some (sym is) ∙ store.whole.recorded number used))
        | inr free ↦ free
      ] in
      let none = total-zero bytes_of_code BLOCK_CODES (λ code below. key_bytes-none ((log_state p).at number code) code
      (unused_nowhere p number code (free_place p number free) low store.whole)) in
      omega arith

-- ---- all segments and all numbers
module _ (p : Parts) (store : IsStore p) where
  -- what the keys of a number give a segment
  abbrev given : ℕ → ℕ → ℕ
  given segment number = total (λ code. weight_of ((log_state p).at number code) segment code) BLOCK_CODES

  number_few : (number : ℕ) → number < length p.log.tables.rows
      → total (λ s. given s number) p.log.memory.segments ≤ 128 * units_of_file (map.get (content_of p) number)
  number_few number low =
      let at : ℕ → ℕ = (log_state p).at number in
      let other = swapped (λ s code. weight_of (at code) s code) p.log.memory.segments BLOCK_CODES in
      let each = total_le (λ code. total (λ s. weight_of (at code) s code) p.log.memory.segments)
      (bytes_of_code p store number) BLOCK_CODES (λ code below. one_segment (at code) code p.log.memory.segments) in
      let few = codes_few p store number (record_of p number) refl low in
      omega arith

  pub live_few : live_total p ≤ 128 * taken (length p.log.tables.rows) (content_of p)
  unfolding live_bytes
  live_few =
      let numbers = length p.log.tables.rows in
      let counted : live_total p ≡ total (λ s. total (given s) numbers) p.log.memory.segments =
      total-same _ _ p.log.memory.segments (λ s inside. store.log.counted s inside) in
      let other = swapped given p.log.memory.segments numbers in
      let each = total_le (λ n. total (λ s. given s n) p.log.memory.segments)
      (λ n. 128 * units_of_file (map.get (content_of p) n)) numbers number_few in
      let times = total_times (λ n. units_of_file (map.get (content_of p) n)) numbers in
      omega arith
