-- `table_of` is the block that the rest of a way leads to (`table_of-way`), and the codes on a way are the block's own
-- before those of its holder (`codes_on-block`): nearly all of `lfs_staging` and `lfs_segwrite` walks up by these, and
-- `FileBlock::table` and `cell` are proved from this file. `data_table` is the case split for data blocks: below 12,
-- below 140, or under a child of the double block. That a way has at most three codes (`codes_on-most`) bounds what one
-- staged block may need; a third level of indirect blocks would raise it.
use Rattle.std.proofs.Common.{Contains, List, [], ap, arith, inl, inr, length, refl, subst, suc, sym, zero, ℕ, ◌+◌, ◌-◌}
use Rattle.std.proofs.Common.{◌/◌, ◌%◌, ◌<◌, ◌∙◌, ◌∷◌, ◌≡◌, ◌≢◌, ◌≤◌, ◌⊎◌}
use Rattle.std.proofs.lemmas.Bool.{cases_eq, cases_lt, cond-false, cond-true, le-ltb, lt-ltb, ne_eqb}
use Rattle.lfs_inodes.specs.Addresses.{first_at}
use Rattle.lfs_bmap.specs.declared.blocks.FileBlock.{FileBlock}
use Rattle.lfs_bmap.specs.declared.blocks.FileBlock.TheVariants.{Record, Single, Double, Child, Data}
use Rattle.lfs_bmap.specs.Blocks.{IsFileBlock, IsTable, code_of, first_under, table_at, table_of, way_to}
use Rattle.lfs_bmap.specs.Ways.{code_at, codes_on}
use Rattle.lfs_bmap.proofs.WayLemmas.{code_at-way_of, data_way-direct, data_way-double, data_way-single, nothing}
use Rattle.lfs_bmap.proofs.WayLemmas.{way_of-code_of, way_of-zero}
use Rattle.lfs_bmap.proofs.BlockLemmas.{same_block}

pub table_at-holds : (t place : ℕ) → place < 128 → IsTable (table_at t) place
table_at-holds zero place low = low
table_at-holds (suc k) place low = low

pub table_at-code : (t : ℕ) → t ≤ 128 → code_of (table_at t) < 131
table_at-code zero low = omega arith
table_at-code (suc k) low = omega arith

-- a data block's address stands in the record, in the single indirect block, or in a child of the double one
pub table_of-direct : (index : ℕ) → index < 12 → table_of (Data index) ≡ Record
table_of-direct index low = cond-true _ _ _ (lt-ltb index 12 low)

pub table_of-past : (index : ℕ) → 12 ≤ index → table_of (Data index) ≡ table_at ((index - 12) / 128)
table_of-past index past = cond-false _ _ _ (le-ltb index 12 past)

pub table_of-single : (index : ℕ) → 12 ≤ index → index < 140 → table_of (Data index) ≡ Single
table_of-single index past low = let first : (index - 12) / 128 ≡ 0 = omega arith in table_of-past index past
    ∙ ap table_at first

pub table_of-child : (index : ℕ) → 140 ≤ index → table_of (Data index) ≡ Child ((index - 140) / 128)
table_of-child index far =
    let next : (index - 12) / 128 ≡ suc ((index - 140) / 128) = omega arith in
    table_of-past index (omega arith) ∙ ap table_at next

-- what holds of these holds of the block with a data block's address
pub data_table : (P : FileBlock → Type 0) (index : ℕ) → (index < 12 → P Record) → (12 ≤ index → index < 140 → P Single)
    → (140 ≤ index → P (Child ((index - 140) / 128))) → P (table_of (Data index))
data_table P index direct single child = elim (cases_lt index 12) [
  | inl low ↦ subst P (sym (table_of-direct index low)) (direct low)
  | inr past ↦ elim (cases_lt index 140) [
    | inl low ↦ subst P (sym (table_of-single index past low)) (single past low)
    | inr far ↦ subst P (sym (table_of-child index far)) (child far)
  ]
]

-- it is a block that a file can have
pub table_of-is : (block : FileBlock) → IsFileBlock block → IsFileBlock (table_of block)
table_of-is Record is = tt
table_of-is Single is = tt
table_of-is Double is = tt
table_of-is (Child index) is = tt
table_of-is (Data index) is = data_table IsFileBlock index (λ low. tt) (λ past low. tt) (λ far. omega arith)

-- the rest of a block's way leads to it
same_rest : (i j : ℕ) (up above : List ℕ) → i ∷ up ≡ j ∷ above → up ≡ above
same_rest i j up above e = cc

pub table_of-way : (block : FileBlock) → IsFileBlock block → (i : ℕ) (up : List ℕ) → way_to block ≡ i ∷ up
    → way_to (table_of block) ≡ up
table_of-way Record is i up way = absurd (nothing i up way)
table_of-way Single is i up way = same_rest 12 i [] up way
table_of-way Double is i up way = same_rest 13 i [] up way
table_of-way (Child index) is i up way = same_rest index i (13 ∷ []) up way
table_of-way (Data index) is i up way = data_table (λ t. way_to t ≡ up) index
    (λ low. same_rest index i [] up (sym (data_way-direct index low) ∙ way))
    (λ past low. same_rest (index - 12) i (12 ∷ []) up (sym (data_way-single index past low) ∙ way))
    (λ far. same_rest ((index - 140) % 128) i (((index - 140) / 128) ∷ 13 ∷ []) up (sym (data_way-double index far)
    ∙ way))

-- the record alone has no way
pub no_end : (i : ℕ) (up : List ℕ) → i ∷ up ≡ [] → ⊥
no_end i up e = cc

pub table_of-none : (block : FileBlock) → IsFileBlock block → way_to block ≡ [] → table_of block ≡ Record
table_of-none Record is way = refl
table_of-none Single is way = refl
table_of-none Double is way = refl
table_of-none (Child index) is way = absurd (no_end index (13 ∷ []) way)
table_of-none (Data index) is way = data_table (λ t. t ≡ Record) index (λ low. refl)
    (λ past low. absurd (no_end (index - 12) (12 ∷ []) (sym (data_way-single index past low) ∙ way)))
    (λ far. absurd (no_end ((index - 140) % 128) (((index - 140) / 128) ∷ 13 ∷ []) (sym (data_way-double index far)
    ∙ way)))

-- the data blocks that a block leads to are among those that the holder of its address leads to
pub table_of-under : (block : FileBlock) → first_under (table_of block) ≤ first_under block
table_of-under Record = omega arith
table_of-under Single = omega arith
table_of-under Double = omega arith
table_of-under (Child index) = omega arith
table_of-under (Data index) = data_table (λ t. first_under t ≤ index) index (λ low. omega arith) (λ past low. past)
    (λ far. omega arith)

-- ---- the codes on a way
pub codes_on-none : codes_on [] ≡ []
unfolding codes_on
codes_on-none = refl

codes_on-more : (i : ℕ) (up : List ℕ) → codes_on (i ∷ up) ≡ code_at (i ∷ up) ∷ codes_on up
unfolding codes_on
codes_on-more i up = refl

some_way : (block : FileBlock) (way : List ℕ) → IsFileBlock block → way_to block ≡ way → code_of block ≢ 0
    → codes_on way ≡ code_at way ∷ codes_on (way_to (table_of block))
some_way block [] is way other =
    absurd (other (sym (code_at-way_of (code_of block)) ∙ ap code_at (way_of-code_of block is ∙ way ∙ sym way_of-zero)
    ∙ code_at-way_of 0))
some_way block (i ∷ up) is way other = codes_on-more i up
    ∙ ap (λ w. code_at (i ∷ up) ∷ codes_on w) (sym (table_of-way block is i up way))

-- those on a block's way are its own, and those on the way of what holds its address
pub codes_on-block : (block : FileBlock) → IsFileBlock block → code_of block ≢ 0 → codes_on (way_to block)
    ≡ code_of block ∷ codes_on (way_to (table_of block))
codes_on-block block is other =
    some_way block (way_to block) is refl other
    ∙ ap (λ c. c ∷ codes_on (way_to (table_of block))) (ap code_at (sym (way_of-code_of block is))
    ∙ code_at-way_of (code_of block))

-- a code of a list is its first, or stands in the rest
pub code_cases : (c d : ℕ) (codes : List ℕ) → Contains (d ∷ codes) c → (d ≡ c) ⊎ Contains codes c
code_cases c d codes (zero, low, e) = inl e
code_cases c d codes (suc k, low, e) = inr (k, omega arith, e)

-- each block on the way of another one leads to it
abbrev LeadsBelow : FileBlock → Type 0
LeadsBelow block = (b : FileBlock) → IsFileBlock b → Contains (codes_on (way_to block)) (code_of b)
    → first_under b ≤ first_under block

below_record : LeadsBelow Record
below_record b can has = let low = (subst (λ cs. Contains cs (code_of b)) codes_on-none has).1 in absurd (omega arith)

below_more : (block : FileBlock) → IsFileBlock block → code_of block ≢ 0 → LeadsBelow (table_of block)
    → LeadsBelow block
below_more block is other above b can has =
    elim (code_cases (code_of b) (code_of block) (codes_on (way_to (table_of block)))
    (subst (λ cs. Contains cs (code_of b)) (codes_on-block block is other) has)) [
      | inl same ↦ let one = ap first_under (same_block block b is can same) in omega arith
      | inr more ↦ let first = above b can more in let least = table_of-under block in omega arith
    ]

below_single : LeadsBelow Single
below_single = below_more Single tt (λ e. omega arith) below_record

below_child : (index : ℕ) → index < 128 → LeadsBelow (Child index)
below_child index low = below_more (Child index) low (λ e. omega arith)
    (below_more Double tt (λ e. omega arith) below_record)

pub codes_on-below : (block : FileBlock) → IsFileBlock block → (b : FileBlock) → IsFileBlock b
    → Contains (codes_on (way_to block)) (code_of b) → first_under b ≤ first_under block
codes_on-below Record is = below_record
codes_on-below Single is = below_single
codes_on-below Double is = below_more Double tt (λ e. omega arith) below_record
codes_on-below (Child index) is = below_child index is
codes_on-below (Data index) is = below_more (Data index) is (λ e. omega arith)
    (data_table LeadsBelow index (λ low. below_record) (λ past low. below_single)
    (λ far. below_child ((index - 140) / 128) (omega arith)))

-- no code is on the way of the record
pub codes_on-record : (c : ℕ) → Contains (codes_on (way_to Record)) c → ⊥
codes_on-record c has = let few = (subst (λ cs. Contains cs c) codes_on-none has).1 in absurd (omega arith)

-- a data block's code is no holder's
pub table_of-code : (block : FileBlock) → IsFileBlock block → code_of (table_of block) < 131
table_of-code Record is = omega arith
table_of-code Single is = omega arith
table_of-code Double is = omega arith
table_of-code (Child index) is = omega arith
table_of-code (Data index) is = data_table (λ t. code_of t < 131) index (λ low. omega arith) (λ past low. omega arith)
    (λ far. omega arith)

-- one code more is on a block's way than on that of what holds its address
codes_on-length : (block : FileBlock) → IsFileBlock block → code_of block ≢ 0 → length (codes_on (way_to block))
    ≡ length (codes_on (way_to (table_of block))) + 1
codes_on-length block is other = ap (λ (cs : List ℕ). length cs) (codes_on-block block is other) ∙ omega arith

-- the way of the record has none, and each way one more than that of what holds the block's address
pub codes_on-none_long : length (codes_on (way_to Record)) ≡ 0
codes_on-none_long = ap (λ (cs : List ℕ). length cs) codes_on-none

single_long : length (codes_on (way_to Single)) ≤ 1
single_long = let one = codes_on-length Single tt (λ e. omega arith) in let none = codes_on-none_long in omega arith

double_long : length (codes_on (way_to Double)) ≤ 1
double_long = let one = codes_on-length Double tt (λ e. omega arith) in let none = codes_on-none_long in omega arith

child_long : (index : ℕ) → index < 128 → length (codes_on (way_to (Child index))) ≤ 2
child_long index low = let one = codes_on-length (Child index) low (λ e. omega arith) in let rest = double_long in
    omega arith

pub codes_on-few : (block : FileBlock) → IsFileBlock block → length (codes_on (way_to (table_of block))) ≤ 2
codes_on-few Record is = let none = codes_on-none_long in omega arith
codes_on-few Single is = let none = codes_on-none_long in omega arith
codes_on-few Double is = let none = codes_on-none_long in omega arith
codes_on-few (Child index) is = let rest = double_long in omega arith
codes_on-few (Data index) is = data_table (λ t. length (codes_on (way_to t)) ≤ 2) index
    (λ low. let none = codes_on-none_long in omega arith)
    (λ past low. let one = single_long in omega arith)
    (λ far. child_long ((index - 140) / 128) (omega arith))

-- the place of the record where a block's address stands leads to no later data block
same_first : (i j : ℕ) (up above : List ℕ) → i ∷ up ≡ j ∷ above → i ≡ j
same_first i j up above e = cc

direct_first : (i n : ℕ) → i ≢ 13 → i ≤ n → first_at i ≤ n
direct_first i n other low = let itself : first_at i ≡ i = cond-false _ _ _ (ne_eqb i 13 other) in omega arith

pub first_at-under : (block : FileBlock) → IsFileBlock block → (i : ℕ) → way_to block ≡ i ∷ []
    → first_at i ≤ first_under block
first_at-under Record is i way = absurd (nothing i [] way)
first_at-under Single is i way = subst (λ n. first_at n ≤ 12) (same_first 12 i [] [] way) (omega arith)
first_at-under Double is i way = subst (λ n. first_at n ≤ 140) (same_first 13 i [] [] way) (omega arith)
first_at-under (Child index) is i way = absurd (no_end 13 [] (same_rest index i (13 ∷ []) [] way))
first_at-under (Data index) is i way = elim (cases_lt index 12) [
  | inl low ↦
      let here : index ≡ i = same_first index i [] [] (sym (data_way-direct index low) ∙ way) in
      direct_first i index (λ e. omega arith) (omega arith)
  | inr past ↦ elim (cases_lt index 140) [
    | inl near ↦ absurd (no_end 12 [] (same_rest (index - 12) i (12 ∷ []) [] (sym (data_way-single index past near)
        ∙ way)))
    | inr far ↦ absurd (no_end ((index - 140) / 128) (13 ∷ [])
        (same_rest ((index - 140) % 128) i (((index - 140) / 128) ∷ 13 ∷ []) [] (sym (data_way-double index far)
        ∙ way)))
  ]
]

-- the block whose address stands at a place of the record
pub record IsRootBlock (place : ℕ) : Type 0 where
  pub block : FileBlock
  pub is : IsFileBlock block
  pub other : code_of block ≢ 0
  pub way : way_to block ≡ place ∷ []
  pub from : first_at place ≤ first_under block

pub root_block : (place : ℕ) → place < 14 → IsRootBlock place
root_block place low = elim (cases_lt place 12) [
  | inl direct ↦ record {
    block = Data place;
    is = omega arith;
    other = λ e. omega arith;
    way = data_way-direct place direct;
    from = direct_first place place (λ e. omega arith) (omega arith);
  }
  | inr past ↦ elim (cases_eq place 12) [
    | inl e ↦ record {
      block = Single;
      is = tt;
      other = λ e. omega arith;
      way = ap (λ k. k ∷ []) (sym e);
      from = subst (λ n. first_at n ≤ 12) (sym e) (omega arith);
    }
    | inr ne ↦
        let last : 13 ≡ place = omega arith in
        record {
          block = Double;
          is = tt;
          other = λ e. omega arith;
          way = ap (λ k. k ∷ []) last;
          from = subst (λ n. first_at n ≤ 140) last (omega arith);
        }
  ]
]

-- ---- how many codes are on a way
pub codes_on-most : (block : FileBlock) → IsFileBlock block → code_of block ≢ 0 → length (codes_on (way_to block)) ≤ 3
codes_on-most block is other =
    let more = codes_on-length block is other in
    let few = codes_on-few block is in
    omega arith
