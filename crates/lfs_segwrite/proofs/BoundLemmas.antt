-- What one call may ask takes at most 20 frames, 24 while it is staged, a record for each change, and 22 blocks:
-- `frames_most`, `peak_most`, `records_most`, `needs_few`, for `applying::apply`. The frames are summed change by
-- change: a put of n bytes takes (n + 2558) / 512 at most, a new length three, and `CanApply` bounds bytes, puts and
-- lengths; a cut needs four more for a while. With other bounds in `CanApply`, or a level more of indirect blocks, the
-- sums pass `LOCKED_LIMIT` and one summary.
use Rattle.std.proofs.Common.{◌≡◌, ℕ, zero, suc, ◌+◌, ◌-◌, ◌*◌, ◌/◌, ◌%◌, ◌<◌, ◌≤◌, List, [], ◌∷◌, All, length, refl}
use Rattle.std.proofs.Common.{inl, inr, arith}
use Rattle.std.specs.FinMap as map
use Rattle.std.proofs.lemmas.Bool.{cases_eq, cond-true, cond-false, eq-eqb, ne_eqb}
use Rattle.std.proofs.lemmas.List.Sums.{sum_by-cons}
use Rattle.lfs_types.specs.Changes.{CanApply, CanChange, CanChangeAll, changed, lengths_of, put_bytes, puts_of}
use Rattle.lfs_types.specs.Tree.{Content}
use Rattle.lfs_types.specs.declared.limits.TheConstants.{FILE_BLOCKS, FILE_BYTES}
use Rattle.lfs_types.specs.declared.store.Change.{Change}
use Rattle.lfs_types.specs.declared.store.Change.TheVariants.{Make, Remove, SetAttrs, Put, SetLength}
use Rattle.lfs_types.proofs.Contents.{length_of_file}
use Rattle.lfs_segwrite.specs.Applying.{IsInReach, blocks_for, frames_of_all, needs_of, peak_of, peak_of_all}
use Rattle.lfs_segwrite.specs.Applying.{records_of_all}
use Rattle.lfs_staging.specs.Changing.{frames_of, frames_of_length, length_table, records_of}
use Rattle.lfs_segwrite.specs.Collecting.{inode_blocks}
use Rattle.lfs_segwrite.proofs.AskedLemmas.{put_limit}
use Rattle.lfs_staging.specs.Putting.{frames_of_put}
use Rattle.lfs_inodes.specs.Facts.{block_count}
use Rattle.lfs_bmap.specs.declared.blocks.FileBlock.TheVariants.{Data}
use Rattle.lfs_bmap.specs.Blocks.{way_to}
use Rattle.lfs_bmap.proofs.HolderLemmas.{codes_on-few}
use Rattle.lfs_bmap.proofs.TableLemmas.{codes_on-long, tables_between-few}

-- ---- changes within reach
first_reach : (change : Change) (changes : List Change) → All IsInReach (change ∷ changes) → IsInReach change
first_reach change changes reach = reach zero change (omega arith)

rest_reach : (change : Change) (changes : List Change) → All IsInReach (change ∷ changes) → All IsInReach changes
rest_reach change changes reach = λ k d low. reach (suc k) d (omega arith)

in_reach : (numbers : ℕ) (change : Change) (c : Content) → put_bytes (change ∷ []) ≤ 4096 → CanChange numbers change c
    → IsInReach change
in_reach numbers (Make ino attrs) c few can = tt
in_reach numbers (Remove ino) c few can = tt
in_reach numbers (SetAttrs ino attrs) c few can = tt
in_reach numbers (Put ino off bytes) c few can = (omega arith, put_limit (map.get c ino) off bytes.now can)
in_reach numbers (SetLength ino len) c few can = length_of_file (map.get c ino) len can

one_put : (change : Change) (changes : List Change) → put_bytes (change ∷ changes) ≡ put_bytes (change ∷ [])
    + put_bytes changes
one_put (Make ino attrs) changes = omega arith
one_put (Remove ino) changes = omega arith
one_put (SetAttrs ino attrs) changes = omega arith
one_put (Put ino off bytes) changes = omega arith
one_put (SetLength ino len) changes = omega arith

pub all_in_reach : (numbers : ℕ) (changes : List Change) (c : Content) → put_bytes changes ≤ 4096
    → CanChangeAll numbers changes c → All IsInReach changes
all_in_reach numbers [] c few can k d low = absurd (omega arith)
all_in_reach numbers (change ∷ changes) c few can zero d low =
    let parts = one_put change changes in in_reach numbers change c (omega arith) can.0
all_in_reach numbers (change ∷ changes) c few can (suc k) d low =
    let parts = one_put change changes in all_in_reach numbers changes (changed change c) (omega arith) can.1 k d
    (omega arith)

-- ---- frames
put_most : (start count : ℕ) → 0 < count → count ≤ 4096 → 512 * frames_of_put start count ≤ count + 2558
put_most start count some few = let tables =
    tables_between-few (start / 512) ((start + count - 1) / 512) (omega arith) (omega arith) in omega arith

length_most : (len : ℕ) → len ≤ FILE_BYTES → frames_of_length len ≤ 3
length_most len low =
    let near : block_count len - 1 < FILE_BLOCKS = omega arith in
    let few = codes_on-few (Data (block_count len - 1)) near in
    let long = codes_on-long (way_to (length_table len)) in
    elim (cases_eq (len % 512) 0) [
      | inl e ↦ let is = cond-true {A = ℕ} _ 0 1 (eq-eqb (len % 512) 0 e) in omega arith
      | inr ne ↦ let is = cond-false {A = ℕ} _ 0 1 (ne_eqb (len % 512) 0 ne) in omega arith
    ]

frames_sum : (changes : List Change) → All IsInReach changes → 512 * frames_of_all changes ≤ put_bytes changes
    + 2558 * puts_of changes + 1536 * lengths_of changes
frames_sum [] reach = omega arith
frames_sum (Make ino attrs ∷ changes) reach = frames_sum changes (rest_reach (Make ino attrs) changes reach)
frames_sum (Remove ino ∷ changes) reach = frames_sum changes (rest_reach (Remove ino) changes reach)
frames_sum (SetAttrs ino attrs ∷ changes) reach = frames_sum changes (rest_reach (SetAttrs ino attrs) changes reach)
frames_sum (Put ino off bytes ∷ changes) reach =
    let rest = frames_sum changes (rest_reach (Put ino off bytes) changes reach) in
    let sum = sum_by-cons frames_of (Put ino off bytes) changes in
    let own = first_reach (Put ino off bytes) changes reach in
    let n = length bytes.now in
    elim (cases_eq n 0) [
      | inl e ↦ let is = cond-true {A = ℕ} _ 0 (frames_of_put off n) (eq-eqb n 0 e) in omega arith
      | inr ne ↦
          let is = cond-false {A = ℕ} _ 0 (frames_of_put off n) (ne_eqb n 0 ne) in
          let most = put_most off n (omega arith) own.0 in
          omega arith
    ]
frames_sum (SetLength ino len ∷ changes) reach =
    let rest = frames_sum changes (rest_reach (SetLength ino len) changes reach) in
    let sum = sum_by-cons frames_of (SetLength ino len) changes in
    let most = length_most len (first_reach (SetLength ino len) changes reach) in
    omega arith

pub frames_most : (numbers : ℕ) (changes : List Change) (c : Content) → CanApply numbers changes c
    → frames_of_all changes ≤ 20
frames_most numbers changes c can =
    let sum = frames_sum changes (all_in_reach numbers changes c can.few_bytes can.each) in
    omega (arith, can.few_bytes, can.few_puts, can.few_lengths)

-- ---- frames while changes are staged
-- a cut takes no more than it leaves waiting and four
peak_more : (change : Change) → peak_of change ≤ frames_of change + 4
peak_more (Make ino attrs) = omega arith
peak_more (Remove ino) = omega arith
peak_more (SetAttrs ino attrs) = omega arith
peak_more (Put ino off bytes) = omega arith
peak_more (SetLength ino len) = omega arith

peak_sum : (changes : List Change) → peak_of_all changes ≤ frames_of_all changes + 4
peak_sum [] = omega arith
peak_sum (change ∷ changes) =
    let one = peak_more change in
    let rest = peak_sum changes in
    let sum = sum_by-cons frames_of change changes in
    omega arith

pub peak_most : (numbers : ℕ) (changes : List Change) (c : Content) → CanApply numbers changes c
    → peak_of_all changes ≤ 24
peak_most numbers changes c can = let sum = peak_sum changes in let frames = frames_most numbers changes c can in
    omega arith

-- ---- records
pub record_most : (change : Change) → records_of change ≤ 1
record_most (Make ino attrs) = omega arith
record_most (Remove ino) = omega arith
record_most (SetAttrs ino attrs) = omega arith
record_most (Put ino off bytes) = let n = length bytes.now in elim (cases_eq n 0) [
  | inl e ↦ let is = cond-true {A = ℕ} _ 0 1 (eq-eqb n 0 e) in omega arith
  | inr ne ↦ let is = cond-false {A = ℕ} _ 0 1 (ne_eqb n 0 ne) in omega arith
]
record_most (SetLength ino len) = omega arith

pub records_most : (changes : List Change) → records_of_all changes ≤ length changes
records_most [] = omega arith
records_most (change ∷ changes) =
    let one = record_most change in
    let rest = records_most changes in
    let sum = sum_by-cons records_of change changes in
    omega arith

-- ---- blocks
-- more frames and records take no fewer blocks
pub blocks_more : (f g r s : ℕ) → f ≤ g → r ≤ s → blocks_for f r ≤ blocks_for g s
blocks_more f g r s more_frames more_records =
    let least : f + inode_blocks r ≤ g + inode_blocks s = omega arith in
    elim (cases_eq (f + inode_blocks r) 0) [
      | inl none ↦ let is = cond-true {A = ℕ} _ 0 (f + inode_blocks r + 1) (eq-eqb _ 0 none) in omega arith
      | inr some ↦
          let is = cond-false {A = ℕ} _ 0 (f + inode_blocks r + 1) (ne_eqb _ 0 some) in
          let to = cond-false {A = ℕ} _ 0 (g + inode_blocks s + 1)
          (ne_eqb (g + inode_blocks s) 0 (λ e. some (omega arith))) in
          omega arith
    ]

pub needs_few : (changes : List Change) → frames_of_all changes ≤ 20 → records_of_all changes ≤ 4
    → needs_of changes ≤ 22
needs_few changes frames records =
    let most = blocks_more (frames_of_all changes) 20 (records_of_all changes) 4 frames records in
    let is : blocks_for 20 4 ≡ 22 = refl in
    omega arith

-- frames and records written together take no more than each by itself
pub blocks_sum : (f g r s : ℕ) → blocks_for (f + g) (r + s) ≤ blocks_for f r + blocks_for g s
blocks_sum f g r s = elim (cases_eq (f + inode_blocks r) 0) [
  | inl none ↦
      let more = blocks_more (f + g) g (r + s) s (omega arith) (omega arith) in omega arith
  | inr some ↦ elim (cases_eq (g + inode_blocks s) 0) [
    | inl none ↦ let more = blocks_more (f + g) f (r + s) r (omega arith) (omega arith) in omega arith
    | inr other ↦
        let first = cond-false {A = ℕ} _ 0 (f + inode_blocks r + 1) (ne_eqb _ 0 some) in
        let second = cond-false {A = ℕ} _ 0 (g + inode_blocks s + 1) (ne_eqb _ 0 other) in
        let both = cond-false {A = ℕ} _ 0 (f + g + inode_blocks (r + s) + 1)
        (ne_eqb (f + g + inode_blocks (r + s)) 0 (λ e. some (omega arith))) in
        omega arith
  ]
]
