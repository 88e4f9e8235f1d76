-- The check counts the live bytes of each segment key by key, and what is counted at the end is all of them:
-- `count_one`, `count_none` and `count_number`, for `count_block`, `count_record` and `check_number`, with `live_all`
-- for `check_segment`. The invariant is IsCounted: the keys of earlier numbers, and of this one below a code, have good
-- places, and the counts are their sum (`before-more`); a key with a place adds 512 bytes or, for a record, 128 to its
-- segment. The hard jump is over a child block without address and over a free number, whose keys are passed at once as
-- none has a place (`child_none`, `free_nowhere`); a new kind of block must get a code and be walked in that order.
use Rattle.std.proofs.Common.{◌≡◌, ◌≢◌, ℕ, zero, suc, ◌+◌, ◌-◌, ◌*◌, ◌/◌, ◌%◌, ◌<◌, ◌≤◌, ◌^◌, List, [], ◌∷◌, length}
use Rattle.std.proofs.Common.{None, Some, false, set, refl, sym, ap, ◌∙◌, subst, inl, inr, arith}
use Rattle.std.specs.Prelude.{slice_index, slice_set}
use Rattle.std.proofs.lemmas.Bool.{cases_Bool, cases_eq, cases_lt, cond-true, cond-false, ne_eqb}
use Rattle.std.proofs.lemmas.Option.{none-some}
use Rattle.std.proofs.lemmas.List.{get_or-set_other, get_or-set_same, length-set, get_or_past}
use Rattle.lfs_ifile.specs.declared.inode.InodePlace.{InodePlace}
use Rattle.lfs_ifile.specs.declared.inode.InodeRow.{InodeRow}
use Rattle.lfs_ifile.specs.Inode.{fresh_row, place_in}
use Rattle.lfs_types.specs.Blocks.{zero_block}
use Rattle.lfs_inodes.specs.Addresses.{cells}
use Rattle.lfs_ifile.specs.Tables.{place_of, row_of}
use Rattle.lfs_inodes.proofs.ZeroedLemmas.{slice_index-cells_zero_block}
use Rattle.lfs_bmap.specs.declared.blocks.FileBlock.{FileBlock}
use Rattle.lfs_bmap.specs.declared.blocks.FileBlock.TheVariants.{Child}
use Rattle.lfs_bmap.specs.declared.blocks.TheConstants.{BLOCK_CODES}
use Rattle.lfs_bmap.specs.Blocks.{IsFileBlock, code_of, way_to}
use Rattle.lfs_bmap.specs.Counting.{live_bytes, seg_of, units, weight_of}
use Rattle.lfs_bmap.specs.Log.{IsPlaced}
use Rattle.lfs_bmap.specs.Reading.{address}
use Rattle.lfs_bmap.specs.Ways.{way_of}
use Rattle.lfs_bmap.proofs.BlockLemmas.{code_of-below}
use Rattle.lfs_bmap.proofs.CountingLemmas.{weight-none, weight-here, weight-elsewhere}
use Rattle.lfs_bmap.proofs.ReadingLemmas.{address-root, via-none}
use Rattle.lfs_bmap.proofs.WayLemmas.{data_way-double, way_of-code_of, way_of-data, way_of-zero}
use Rattle.lfs_log.specs.Parts.{IsParts, LogParts}
use Rattle.lfs_parts.specs.View.{root_in, tree_of}
use Rattle.lfs_parts.proofs.KeyLemmas.{place-block, place-record, placed_at, unplaced}
use Rattle.lfs_parts.proofs.ViewLemmas.{held_cell, nowhere, record_of-unused}
use Rattle.lfs_fsck.specs.Checks.{IsCounted, IsKept, IsKey, LieBelow, live_before}
use Rattle.lfs_fsck.specs.Stored.{keys_of, flushed}
use Rattle.lfs_fsck.proofs.FlushedLemmas.{used_row}
use Rattle.lfs_fsck.proofs.SumLemmas.{live-first, live-more, live-most, total-first, total-more, total-most}
use Rattle.lfs_fsck.proofs.SumLemmas.{weight-most}

-- the place of a block of a file
pub at_block : (l : LogParts) (number : ℕ) (block : FileBlock) → IsFileBlock block → code_of block ≢ 0
    → (keys_of l).at number (code_of block) ≡ 4 * address (tree_of (flushed l) number) (way_to block)
at_block l number block can other =
    place-block (flushed l) number (code_of block) other
    ∙ ap (λ w. 4 * address (tree_of (flushed l) number) w) (way_of-code_of block can)

-- of a block whose address is known, by its code
pub key_at : (l : LogParts) (number : ℕ) (block : FileBlock) (code a : ℕ) → IsFileBlock block → code_of block ≢ 0 → code
    ≡ code_of block
    → a ≡ address (tree_of (flushed l) number) (way_to block) → (keys_of l).at number code ≡ 4 * a
key_at l number block code a can other coded is =
    ap ((keys_of l).at number) coded ∙ at_block l number block can other ∙ ap (λ x. 4 * x) (sym is)

pub key_placed : (l : LogParts) (number : ℕ) (block : FileBlock) (code a : ℕ) → IsFileBlock block → code_of block ≢ 0
    → code ≡ code_of block
    → a ≡ address (tree_of (flushed l) number) (way_to block) → number < length l.tables.rows → a ≢ 0
    → IsPlaced (keys_of l) number code
key_placed l number block code a can other coded is low some = record {
  number_below = low;
  code_below = let below = code_of-below block can in omega arith;
  somewhere = λ e. some (let at = key_at l number block code a can other coded is in omega arith);
}

-- of a record
pub record_at : (l : LogParts) (number : ℕ) (place : InodePlace) → place_of l.tables number ≡ Some place
    → place.addr ≢ 0
    → (keys_of l).at number 0 ≡ 4 * place.addr + place.slot
record_at l number place here some =
    let row = used_row (row_of l.tables number) place here in
    let other : (row_of l.tables number).address ≢ 0 = λ e. some (row.1 ∙ e) in
    place-record (flushed l) number ∙ placed_at l.tables number other
    ∙ ap (λ a. 4 * a + (row_of l.tables number).slot) (sym row.1) ∙ ap (λ k. 4 * place.addr + k) (sym row.2)

pub record_none : (l : LogParts) (number : ℕ) (place : InodePlace) → place_of l.tables number ≡ Some place → place.addr
    ≡ 0 → (keys_of l).at number 0 ≡ 0
record_none l number place here none =
    let row = used_row (row_of l.tables number) place here in
    place-record (flushed l) number ∙ unplaced l.tables number (sym row.1 ∙ none)

pub slot_low : (l : LogParts) (number : ℕ) (place : InodePlace) → IsParts l → number < length l.tables.rows
    → place_of l.tables number ≡ Some place
    → (place.slot < 4) × (place.addr < l.memory.segments * 64)
slot_low l number place parts low here =
    let row = used_row (row_of l.tables number) place here in
    let formed = parts.formed.each_row number fresh_row low in
    (omega (arith, row.2, formed.slot), omega (arith, row.1, formed.address, parts.agree))

pub record_placed : (l : LogParts) (number : ℕ) (place : InodePlace) → number < length l.tables.rows
    → place_of l.tables number ≡ Some place → place.addr ≢ 0
    → IsPlaced (keys_of l) number 0
record_placed l number place low here some = record {
  number_below = low;
  code_below = omega arith;
  somewhere = λ e. some (let at = record_at l number place here some in omega arith);
}

-- blocks that were counted lie in the volume
pub lie_below : (l : LogParts) (number code : ℕ) → ((c : ℕ) → c < code → IsKept l number c) → 0 < l.memory.segments
    → LieBelow l number code
lie_below l number code kept some = record {
  each = λ t can low.
      let way = way_of-code_of t can in
      let a : ℕ = address (tree_of (flushed l) number) (way_to t) in
      elim (cases_eq a 0) [
        | inl none ↦ let e : a ≡ 0 = none in omega arith
        | inr there ↦ elim (cases_eq (code_of t) 0) [
          | inl record_ ↦
              let nil : way_to t ≡ [] = sym way ∙ ap way_of record_ ∙ way_of-zero in
              absurd (there (ap (address (tree_of (flushed l) number)) nil ∙ address-root (tree_of (flushed l) number)))
          | inr other ↦
              let at = at_block l number t can other in
              let key = kept (code_of t) low (λ e. there (omega (arith, at, e))) in
              omega (arith, at, key.place.in_volume)
        ]
      ];
}

-- a block takes four units, a record one
pub same_units : (code : ℕ) → code ≢ 0 → 512 ≡ 128 * units code
same_units code other = let four : units code ≡ 4 = cond-false _ _ _ (ne_eqb code 0 other) in omega arith

-- ---- counting
module _ (l : LogParts) (number code : ℕ) where
  at : ℕ → ℕ → ℕ
  at = (keys_of l).at

  pub more_here : ((c : ℕ) → c < code → IsKept l number c) → IsKept l number code → (c : ℕ) → c < code + 1
      → IsKept l number c
  more_here before one c low = elim (cases_eq c code) [
    | inl here ↦ subst (λ k. IsKept l number k) (sym here) one
    | inr other ↦ before c (omega arith)
  ]

  pub before-more : (s : ℕ) → live_before l number (code + 1) s ≡ live_before l number code s
      + weight_of ((keys_of l).at number code) s code
  before-more s =
      let more = total-more (λ c. weight_of ((keys_of l).at number c) s c) code in
      omega arith

  -- a key without a place
  pub count_none : (counts : List ℕ) → IsCounted l number code counts → (keys_of l).at number code ≡ 0
      → IsCounted l number (code + 1) counts
  count_none counts h none = record {
    earlier = h.earlier;
    here = more_here h.here (λ some. absurd (some none));
    long = h.long;
    sums = λ s low.
        let more = before-more s in
        let nothing = ap (λ p. weight_of p s code) none ∙ weight-none s code in
        h.sums s low ∙ omega arith;
  }

  -- one with a place
  pub count_one : (counts new : List ℕ) (segment bytes : ℕ) → IsCounted l number code counts
      → (keys_of l).at number code ≢ 0 → IsKey l number code
      → seg_of ((keys_of l).at number code) ≡ segment → bytes ≡ 128 * units code
      → new ≡ slice_set counts segment (slice_index counts segment + bytes) → IsCounted l number (code + 1) new
  count_one counts new segment bytes h some key here many is =
      let inside : segment < l.memory.segments = let low = key.place.in_volume in omega arith in
      record {
        earlier = h.earlier;
        here = more_here h.here (λ _. key);
        long = ap length is ∙ length-set counts segment (slice_index counts segment + bytes) ∙ h.long;
        sums = λ s low.
            let more = before-more s in
            let was = h.sums s low in
            ap (λ xs. slice_index xs s) is ∙ elim (cases_eq s segment) [
              | inl same ↦
                  let full = weight-here ((keys_of l).at number code) s code some (here ∙ sym same) in
                  let old : slice_index counts segment ≡ slice_index counts s = ap (slice_index counts) (sym same) in
                  ap (λ k. slice_index (set counts segment (slice_index counts segment + bytes)) k) same
                  ∙ get_or-set_same counts segment (slice_index counts segment + bytes) 0 (omega (arith, h.long))
                  ∙ omega arith
              | inr other ↦
                  let none = weight-elsewhere ((keys_of l).at number code) s code (λ e. other (sym e ∙ here)) in
                  get_or-set_other counts segment s (slice_index counts segment + bytes) 0 other ∙ omega arith
            ];
      }

  -- counts are small
  pub counts_small : (counts : List ℕ) (s : ℕ) → IsCounted l number code counts → number ≤ 4096 → code ≤ 16655
      → slice_index counts s ≤ 2 ^ 40
  counts_small counts s h few low =
      elim (cases_lt s l.memory.segments) [
        | inl inside ↦
            let lives = live-most number 16655 (keys_of l).at s in
            let mine = total-most (λ c. weight_of ((keys_of l).at number c) s c) 512 code
            (λ c. weight-most ((keys_of l).at number c) s c) in
            let is = h.sums s inside in
            omega arith
        | inr past ↦ omega (arith, get_or_past counts s 0 (omega (arith, h.long)))
      ]

-- so many keys without a place
pub count_nones : (l : LogParts) (number code k : ℕ) (counts : List ℕ) → IsCounted l number code counts
    → ((j : ℕ) → j < k → (keys_of l).at number (code + j) ≡ 0)
    → IsCounted l number (code + k) counts
count_nones l number code zero counts h none =
    subst (λ c. IsCounted l number c counts) (let e : code ≡ code + 0 = omega arith in e) h
count_nones l number code (suc k) counts h none =
    let one : code + k + 1 ≡ code + suc k = omega arith in
    subst (λ c. IsCounted l number c counts) one
    (count_none l number (code + k) counts (count_nones l number code k counts h (λ j low. none j (omega arith)))
    (none k (omega arith)))

-- all codes of a number were counted
pub count_number : (l : LogParts) (number : ℕ) (counts : List ℕ) → IsCounted l number BLOCK_CODES counts
    → IsCounted l (number + 1) 0 counts
count_number l number counts h = record {
  earlier = λ n c low below. elim (cases_eq n number) [
    | inl here ↦ subst (λ k. IsKept l k c) (sym here) (h.here c below)
    | inr other ↦ h.earlier n c (omega arith) below
  ];
  here = λ c low. absurd (omega arith);
  long = h.long;
  sums = λ s low.
      let more = live-more number BLOCK_CODES (keys_of l).at s in
      let none = total-first (λ c. weight_of ((keys_of l).at (number + 1) c) s c) in
      h.sums s low ∙ omega arith;
}

pub live_all : (l : LogParts) (number : ℕ) (counts : List ℕ) (s : ℕ) → IsCounted l number 0 counts
    → s < l.memory.segments
    → slice_index counts s ≡ live_bytes number BLOCK_CODES (keys_of l).at s
live_all l number counts s h low =
    let none = total-first (λ c. weight_of ((keys_of l).at number c) s c) in
    h.sums s low ∙ omega arith

-- nothing was counted yet
pub count_begins : (l : LogParts) (counts : List ℕ) → length counts ≡ l.memory.segments
    → ((s : ℕ) → slice_index counts s ≡ 0) → IsCounted l 0 0 counts
count_begins l counts long zeros = record {
  earlier = λ n c low below. absurd (omega arith);
  here = λ c low. absurd (omega arith);
  long = long;
  sums = λ s low.
      let none = live-first BLOCK_CODES (keys_of l).at s in
      let nothing = total-first (λ c. weight_of ((keys_of l).at 0 c) s c) in
      zeros s ∙ omega arith;
}

-- a number that isn't in use has no keys with a place
free_row : (row : InodeRow) → place_in row ≡ None → row.used ≡ false
free_row row h =
    elim (cases_Bool row.used) [
      | inl used ↦ absurd (none-some _ (sym h ∙ cond-true _ _ _ used))
      | inr free ↦ free
    ]

pub free_nowhere : (l : LogParts) (number code : ℕ) → IsParts l → number < length l.tables.rows
    → place_of l.tables number ≡ None → (keys_of l).at number code ≡ 0
free_nowhere l number code parts low unused =
    let free = free_row (row_of l.tables number) unused in
    elim (cases_eq code 0) [
      | inl record_ ↦
          let row = parts.formed.each_row number fresh_row low in
          ap ((keys_of l).at number) record_ ∙ place-record (flushed l) number
          ∙ unplaced l.tables number (row.unused_address free)
      | inr block ↦
          let root : (tree_of (flushed l) number).root ≡ [] = ap root_in (record_of-unused (flushed l) number unused) in
          let none = nowhere (tree_of (flushed l) number) (λ i. ap (λ ys. slice_index ys i) root) (λ way. refl)
          (way_of code) in
          place-block (flushed l) number code block ∙ ap (λ a. 4 * a) none
    ]

pub count_free : (l : LogParts) (number : ℕ) (counts : List ℕ) → IsParts l → number < length l.tables.rows
    → place_of l.tables number ≡ None
    → IsCounted l number 0 counts → IsCounted l (number + 1) 0 counts
count_free l number counts parts low unused h =
    let all : IsCounted l number (0 + BLOCK_CODES) counts =
    count_nones l number 0 BLOCK_CODES counts h (λ j _. free_nowhere l number (0 + j) parts low unused) in
    count_number l number counts (subst (λ c. IsCounted l number c counts) (let e : 0 + BLOCK_CODES
    ≡ BLOCK_CODES = omega arith in e) all)

-- a child without address has no blocks
pub child_none : (l : LogParts) (number child j : ℕ) → child < 128 → j < 128
    → address (tree_of (flushed l) number) (way_to (Child child)) ≡ 0
    → (keys_of l).at number (271 + 128 * child + j) ≡ 0
child_none l number child j low inside none =
    let t = tree_of (flushed l) number in
    let up : List ℕ = way_to (Child child) in
    let n : ℕ = 140 + 128 * child + j in
    let code : 271 + 128 * child + j ≡ 131 + n = omega arith in
    let cell : (n - 140) % 128 ≡ j = omega arith in
    let above : (n - 140) / 128 ≡ child = omega arith in
    let way : way_of (131 + n) ≡ j ∷ up =
    way_of-data n ∙ data_way-double n (omega arith) ∙ ap (λ i. i ∷ ((n - 140) / 128) ∷ 13 ∷ []) cell
    ∙ ap (λ i. j ∷ i ∷ 13 ∷ []) above in
    let held : slice_index (cells zero_block) j ≡ address t (j ∷ up) =
    held_cell t j up zero_block 0 (λ e. let bad : child ∷ 13 ∷ [] ≡ [] = e in cc) (sym none) (sym (via-none t up refl))
    in
    ap ((keys_of l).at number) code ∙ place-block (flushed l) number (131 + n) (λ e. absurd (omega arith))
    ∙ ap (λ a. 4 * a) (ap (address t) way ∙ sym held ∙ slice_index-cells_zero_block j)

pub count_childless : (l : LogParts) (number child : ℕ) (counts : List ℕ) → child < 128
    → address (tree_of (flushed l) number) (way_to (Child child)) ≡ 0
    → IsCounted l number (271 + 128 * child) counts → IsCounted l number (271 + 128 * child + 128) counts
count_childless l number child counts low none h =
    count_nones l number (271 + 128 * child) 128 counts h (λ j inside. child_none l number child j low inside none)
