-- In the order of codes each block comes behind what holds its address (`table_of-less`), and a later data block's
-- holder has no lesser code (`table_of-later`): that is why `drop_tables` of `lfs_staging` and the flush of
-- `lfs_segwrite` may go by codes. `data_table` takes a holder apart into record, single block and child of the double
-- one, and arithmetic does the rest; the hard one is `codes_on-behind`, where a child shares the double block, code 2,
-- with all the others. Other numbers in `code_of` must keep this order, or blocks would be given back before what they
-- hold.
use Rattle.std.proofs.Common.{Contains, List, [], ap, arith, inl, inr, length, refl, subst, suc, sym, zero, ℕ, ◌+◌, ◌-◌}
use Rattle.std.proofs.Common.{◌*◌, ◌/◌, ◌%◌, ◌<◌, ◌∙◌, ◌∷◌, ◌≡◌, ◌≢◌, ◌≤◌, ◌⊎◌}
use Rattle.std.proofs.lemmas.Bool.{cases_lt, cond-false, cond-true, le-leb, lt-leb}
use Rattle.lfs_bmap.specs.declared.blocks.FileBlock.{FileBlock}
use Rattle.lfs_bmap.specs.declared.blocks.FileBlock.TheVariants.{Record, Single, Double, Child, Data}
use Rattle.lfs_bmap.specs.declared.blocks.TheConstants.{BLOCK_CODES, FIRST_DATA_CODE}
use Rattle.lfs_bmap.specs.Blocks.{IsFileBlock, code_of, first_under, table_of, way_to}
use Rattle.lfs_bmap.specs.Tables.{rank_of, tables_between}
use Rattle.lfs_bmap.specs.Ways.{IsBlockWay, IsWay, code_at, codes_on, data_way}
use Rattle.lfs_bmap.proofs.BlockLemmas.{code_of-below}
use Rattle.lfs_bmap.proofs.WayLemmas.{code_at-data, data_way-double, data_way-single, no_way_through, way_of-code_of}
use Rattle.lfs_bmap.proofs.WayLemmas.{way_of-data, way_of-known}
use Rattle.lfs_bmap.proofs.HolderLemmas.{code_cases, codes_on-block, codes_on-record, data_table, table_of-child}
use Rattle.lfs_bmap.proofs.HolderLemmas.{table_of-single}

-- a block has a greater code than what holds its address
pub table_of-less : (block : FileBlock) → code_of block ≢ 0 → code_of (table_of block) < code_of block
table_of-less Record other = absurd (other refl)
table_of-less Single other = omega arith
table_of-less Double other = omega arith
table_of-less (Child index) other = omega arith
table_of-less (Data index) other =
    data_table (λ t. code_of t < 131 + index) index (λ low. omega arith) (λ past low. omega arith) (λ far. omega arith)

-- what holds the address of a later data block has no lesser code
pub table_of-later : (index other : ℕ) → index ≤ other
    → code_of (table_of (Data index)) ≤ code_of (table_of (Data other))
table_of-later index other less =
    data_table (λ t. code_of t ≤ code_of (table_of (Data other))) index
    (λ low. omega arith)
    (λ past low. data_table (λ t. 1 ≤ code_of t) other (λ direct. absurd (omega arith)) (λ from to. omega arith)
    (λ far. omega arith))
    (λ far. data_table (λ t. 3 + (index - 140) / 128 ≤ code_of t) other (λ direct. absurd (omega arith))
    (λ from to. absurd (omega arith)) (λ more. omega arith))

-- a block with a lesser code leads to data blocks from no later one on
pub first_under-least : (t : FileBlock) (index : ℕ) → code_of t < code_of (table_of (Data index))
    → first_under t ≤ index
first_under-least Record index less = omega arith
first_under-least Single index less = data_table (λ x. 1 < code_of x → 12 ≤ index) index
    (λ low more. absurd (omega arith)) (λ past low more. past) (λ far more. omega arith) less
first_under-least Double index less = data_table (λ x. 2 < code_of x → 140 ≤ index) index
    (λ low more. absurd (omega arith)) (λ past low more. absurd (omega arith)) (λ far more. far) less
first_under-least (Child k) index less = data_table (λ x. 3 + k < code_of x → 140 + 128 * k ≤ index) index
    (λ low more. absurd (omega arith)) (λ past low more. absurd (omega arith)) (λ far more. omega arith) less
first_under-least (Data k) index less = data_table (λ x. 131 + k < code_of x → k ≤ index) index
    (λ low more. absurd (omega arith)) (λ past low more. absurd (omega arith)) (λ far more. omega arith) less

-- and one with a greater code, which holds addresses, to later ones alone
pub first_under-past : (t : FileBlock) (index : ℕ) → code_of t < FIRST_DATA_CODE
    → code_of (table_of (Data index)) < code_of t → index < first_under t
first_under-past Record index few less = absurd (omega arith)
first_under-past Single index few less = data_table (λ x. code_of x < 1 → index < 12) index
    (λ low more. low) (λ past low more. absurd (omega arith)) (λ far more. absurd (omega arith)) less
first_under-past Double index few less = data_table (λ x. code_of x < 2 → index < 140) index
    (λ low more. omega arith) (λ past low more. low) (λ far more. absurd (omega arith)) less
first_under-past (Child k) index few less = data_table (λ x. code_of x < 3 + k → index < 140 + 128 * k) index
    (λ low more. omega arith) (λ past low more. omega arith) (λ far more. omega arith) less
first_under-past (Data k) index few less = absurd (omega arith)

-- the block at a way that goes on from one that holds addresses
pub record IsUnder (t : FileBlock) (j : ℕ) : Type 0 where
  pub block : FileBlock
  pub is : IsFileBlock block
  pub way : way_to block ≡ j ∷ way_to t
  pub table : table_of block ≡ t
  pub other : code_of block ≢ 0

under_child : (k j : ℕ) → k < 128 → IsBlockWay (j ∷ k ∷ 13 ∷ []) → IsUnder (Child k) j
under_child k j is known =
    let leads = known.leads in
    let h = leads.0 in
    let low : (140 + 128 * k + j - 140) % 128 ≡ j = omega arith in
    let high : (140 + 128 * k + j - 140) / 128 ≡ k = omega arith in
    let way : data_way (140 + 128 * k + j) ≡ j ∷ k ∷ 13 ∷ []
    = data_way-double (140 + 128 * k + j) (omega arith) ∙ ap (λ i. i ∷ ((140 + 128 * k + j - 140) / 128) ∷ 13 ∷ []) low
    ∙ ap (λ i. j ∷ i ∷ 13 ∷ []) high in
    let coded = subst (λ w. code_at w < BLOCK_CODES) (sym way) known.coded in
    let code = code_at-data (140 + 128 * k + j) in
    record {
      block = Data (140 + 128 * k + j);
      is = omega arith;
      way = way;
      table = table_of-child (140 + 128 * k + j) (omega arith) ∙ ap Child high;
      other = λ e. omega arith;
    }

pub under_table : (t : FileBlock) → IsFileBlock t → code_of t ≢ 0 → (j : ℕ) → IsBlockWay (j ∷ way_to t) → IsUnder t j
under_table Record is other j known = absurd (other refl)
under_table Single is other j known =
    let low = known.leads.0 in
    let back : 12 + j - 12 ≡ j = omega arith in
    record {
      block = Data (12 + j);
      is = omega arith;
      way = data_way-single (12 + j) (omega arith) (omega arith) ∙ ap (λ k. k ∷ 12 ∷ []) back;
      table = table_of-single (12 + j) (omega arith) (omega arith);
      other = λ e. omega arith;
    }
under_table Double is other j known = record {
  block = Child j;
  is = known.leads.0;
  way = refl;
  table = refl;
  other = λ e. omega arith;
}
under_table (Child k) is other j known = under_child k j is known
under_table (Data k) is other j known = absurd
    (no_way_through (131 + k) j (omega arith) (subst (λ w. IsWay (j ∷ w)) (sym (way_of-data k)) known.leads))

-- ---- the codes on a way
pub codes_on-long : (way : List ℕ) → length (codes_on way) ≡ length way
unfolding codes_on
codes_on-long [] = refl
codes_on-long (i ∷ up) = ap suc (codes_on-long up)

-- none on the way to a block that holds addresses is greater than its own
within_more : (t : FileBlock) → IsFileBlock t → code_of t ≢ 0
    → ((c : ℕ) → Contains (codes_on (way_to (table_of t))) c → c ≤ code_of t)
    → (c : ℕ) → Contains (codes_on (way_to t)) c → c ≤ code_of t
within_more t is other above c has = elim
    (code_cases c (code_of t) (codes_on (way_to (table_of t)))
    (subst (λ cs. Contains cs c) (codes_on-block t is other) has)) [
      | inl same ↦ omega arith
      | inr more ↦ above c more
    ]

pub codes_on-within : (t : FileBlock) → code_of t < FIRST_DATA_CODE → IsFileBlock t → (c : ℕ)
    → Contains (codes_on (way_to t)) c → c ≤ code_of t
codes_on-within Record few is c has = absurd (codes_on-record c has)
codes_on-within Single few is c has = within_more Single is (λ e. omega arith)
    (λ d more. absurd (codes_on-record d more)) c has
codes_on-within Double few is c has = within_more Double is (λ e. omega arith)
    (λ d more. absurd (codes_on-record d more)) c has
codes_on-within (Child k) few is c has =
    within_more (Child k) is (λ e. omega arith)
    (λ d more. let low = within_more Double tt (λ e. omega arith) (λ f none. absurd (codes_on-record f none)) d more in
    omega arith) c has
codes_on-within (Data k) few is c has = absurd (omega arith)

-- ---- by the code of what holds a data block's address
one_code : (c d : ℕ) → Contains (d ∷ []) c → d ≡ c
one_code c d (zero, low, e) = e
one_code c d (suc k, low, e) = absurd (omega arith)

codes_on-single : codes_on (way_to Single) ≡ 1 ∷ []
unfolding codes_on code_at
codes_on-single = refl

codes_on-double : codes_on (way_to Double) ≡ 2 ∷ []
unfolding codes_on code_at
codes_on-double = refl

codes_on-child : (k : ℕ) → codes_on (way_to (Child k)) ≡ (3 + k) ∷ 2 ∷ []
unfolding codes_on code_at
codes_on-child k = refl

single_code : (c : ℕ) → Contains (codes_on (way_to Single)) c → c ≡ 1
single_code c has = sym (one_code c 1 (subst (λ cs. Contains cs c) codes_on-single has))

child_code : (k c : ℕ) → Contains (codes_on (way_to (Child k))) c → (c ≡ 3 + k) ⊎ (c ≡ 2)
child_code k c has = elim (code_cases c (3 + k) (2 ∷ []) (subst (λ cs. Contains cs c) (codes_on-child k) has)) [
  | inl same ↦ inl (sym same)
  | inr more ↦ inr (sym (one_code c 2 more))
]

-- What leads to the holder of a data block's address is this one itself, or on the way of each block behind it that
-- holds addresses.
behind_child : (t : FileBlock) → 3 ≤ code_of t → code_of t < FIRST_DATA_CODE → (c : ℕ) → c ≡ 2
    → Contains (codes_on (way_to t)) c
behind_child Record from few c two = absurd (omega arith)
behind_child Single from few c two = absurd (omega arith)
behind_child Double from few c two = absurd (omega arith)
behind_child (Child k) from few c two = subst (λ cs. Contains cs c) (sym (codes_on-child k)) (1, omega arith, sym two)
behind_child (Data k) from few c two = absurd (omega arith)

pub codes_on-behind : (index : ℕ) (t : FileBlock) → code_of t < FIRST_DATA_CODE
    → code_of (table_of (Data index)) ≤ code_of t
    → (c : ℕ) → Contains (codes_on (way_to (table_of (Data index)))) c → (code_of (table_of (Data index)) ≡ c)
    ⊎ Contains (codes_on (way_to t)) c
codes_on-behind index t few behind c has =
    data_table (λ b. code_of b ≤ code_of t → Contains (codes_on (way_to b)) c → (code_of b ≡ c)
    ⊎ Contains (codes_on (way_to t)) c) index
    (λ low least there. absurd (codes_on-record c there))
    (λ past low least there. inl (sym (single_code c there)))
    (λ far least there. elim (child_code ((index - 140) / 128) c there) [
      | inl own ↦ inl (sym own)
      | inr two ↦ inr (behind_child t (omega arith) few c two)
    ])
    behind has

-- what leads to a block that holds addresses is the double indirect block, where the block is behind this one
pub codes_on-above : (t : FileBlock) → code_of t < FIRST_DATA_CODE → (c : ℕ)
    → Contains (codes_on (way_to (table_of t))) c → (c ≡ 2) × (2 < code_of t)
codes_on-above Record few c has = absurd (codes_on-record c has)
codes_on-above Single few c has = absurd (codes_on-record c has)
codes_on-above Double few c has = absurd (codes_on-record c has)
codes_on-above (Child k) few c has = (sym (one_code c 2 (subst (λ cs. Contains cs c) codes_on-double has)), omega arith)
codes_on-above (Data k) few c has = absurd (omega arith)

-- the double indirect block is on the way of itself and of what is behind it and holds addresses
pub codes_on-two : (t : FileBlock) → 2 ≤ code_of t → code_of t < FIRST_DATA_CODE → Contains (codes_on (way_to t)) 2
codes_on-two Record from few = absurd (omega arith)
codes_on-two Single from few = absurd (omega arith)
codes_on-two Double from few = subst (λ cs. Contains cs 2) (sym codes_on-double) (0, omega arith, refl)
codes_on-two (Child k) from few = behind_child (Child k) (omega arith) few 2 refl
codes_on-two (Data k) from few = absurd (omega arith)

-- two codes at most are on the way of a block that holds addresses
pub codes_on-table_few : (t : FileBlock) → code_of t < FIRST_DATA_CODE → length (codes_on (way_to t)) ≤ 2
codes_on-table_few Record few = let long = codes_on-long [] in omega arith
codes_on-table_few Single few = let long = codes_on-long (12 ∷ []) in omega arith
codes_on-table_few Double few = let long = codes_on-long (13 ∷ []) in omega arith
codes_on-table_few (Child k) few = let long = codes_on-long (k ∷ 13 ∷ []) in omega arith
codes_on-table_few (Data k) few = absurd (omega arith)

-- ---- by the code
rank_of-data : (k : ℕ) → rank_of (131 + k) ≡ 0
unfolding rank_of
rank_of-data k = cond-true _ _ _ (le-leb 131 (131 + k) (omega arith))

rank_of-child : (k : ℕ) → k < 128 → rank_of (3 + k) ≡ 1
unfolding rank_of
rank_of-child k low = cond-false _ _ _ (lt-leb 131 (3 + k) (omega arith))
    ∙ cond-true _ _ _ (le-leb 3 (3 + k) (omega arith))

rank_of-double : rank_of 2 ≡ 2
unfolding rank_of
rank_of-double = refl

rank_of-single : rank_of 1 ≡ 2
unfolding rank_of
rank_of-single = refl

pub rank_of-few : (code : ℕ) → rank_of code < 3
unfolding rank_of
rank_of-few code = elim (cases_lt code 131) [
  | inr high ↦ subst (λ n. n < 3) (sym (cond-true _ _ _ (le-leb 131 code high))) (omega arith)
  | inl low ↦ elim (cases_lt code 3) [
    | inr child ↦ subst (λ n. n < 3) (sym (cond-false _ _ _ (lt-leb 131 code low)
        ∙ cond-true _ _ _ (le-leb 3 code child))) (omega arith)
    | inl few ↦ subst (λ n. n < 3) (sym (cond-false _ _ _ (lt-leb 131 code low) ∙ cond-false _ _ _ (lt-leb 3 code few)))
        (omega arith)
  ]
]

-- an indirect block is written after each block whose address it holds
pub rank_of-table : (block : FileBlock) → IsFileBlock block → code_of (table_of block) ≢ 0
    → rank_of (code_of block) < rank_of (code_of (table_of block))
rank_of-table Record is other = absurd (other refl)
rank_of-table Single is other = absurd (other refl)
rank_of-table Double is other = absurd (other refl)
rank_of-table (Child k) is other = let first = rank_of-child k is in let second = rank_of-double in omega arith
rank_of-table (Data k) is other =
    let first = rank_of-data k in
    data_table (λ t. code_of t ≢ 0 → rank_of (131 + k) < rank_of (code_of t)) k
    (λ low none. absurd (none refl))
    (λ past low some. let second = rank_of-single in omega arith)
    (λ far some. let second = rank_of-child ((k - 140) / 128) (omega arith) in omega arith) other

-- ---- how far a block is from the record
pub way_length : (way : List ℕ) → IsBlockWay way → length way ≤ 3
way_length [] known = omega arith
way_length (i ∷ []) known = omega arith
way_length (i ∷ j ∷ []) known = omega arith
way_length (i ∷ j ∷ k ∷ []) known = omega arith
way_length (i ∷ j ∷ k ∷ l ∷ up) known = absurd known.leads

pub block_way_length : (block : FileBlock) → IsFileBlock block → length (way_to block) ≤ 3
block_way_length block is =
    way_length (way_to block) (subst IsBlockWay (way_of-code_of block is)
    (way_of-known (code_of block) (code_of-below block is)))

-- ---- from one data block to another
-- what leads to a later data block leads to the first one too, where its code is no greater than that of the first
-- one's holder
pub codes_on-first : (index other : ℕ) → index ≤ other → (c : ℕ)
    → Contains (codes_on (way_to (table_of (Data other)))) c → c ≤ code_of (table_of (Data index))
    → Contains (codes_on (way_to (table_of (Data index)))) c
codes_on-first index other less c has few =
    data_table (λ x. Contains (codes_on (way_to x)) c → Contains (codes_on (way_to (table_of (Data index)))) c) other
    (λ direct there. absurd (codes_on-record c there))
    (λ from to there. data_table (λ x. c ≤ code_of x → Contains (codes_on (way_to x)) c) index
    (λ low least. let one = single_code c there in absurd (omega arith))
    (λ past low least. there)
    (λ far least. absurd (omega arith)) few)
    (λ far there. data_table (λ x. c ≤ code_of x → Contains (codes_on (way_to x)) c) index
    (λ low least. absurd (not_low c ((other - 140) / 128) there (omega arith)))
    (λ past low least. absurd (not_low c ((other - 140) / 128) there (omega arith)))
    (λ past least. elim (child_code ((other - 140) / 128) c there) [
      | inl own ↦
          let same : (other - 140) / 128 ≡ (index - 140) / 128 = omega arith in
          subst (λ k. Contains (codes_on (way_to (Child k))) c) same there
      | inr two ↦ subst (λ cs. Contains cs c) (sym (codes_on-child ((index - 140) / 128))) (1, omega arith, sym two)
    ]) few)
    has
  where
    not_low : (d k : ℕ) → Contains (codes_on (way_to (Child k))) d → d ≤ 1 → ⊥
    not_low d k there low = elim (child_code k d there) [ inl own ↦ omega arith | inr two ↦ omega arith ]

-- as many data blocks as stand under one indirect block have three at most
pub tables_between-few : (first last : ℕ) → first ≤ last → last ≤ first + 128 → tables_between first last ≤ 3
tables_between-few first last less near =
    data_table (λ t. code_of (table_of (Data last)) - code_of t + length (way_to t) ≤ 3) first
    (λ low. data_table (λ x. code_of x - 0 + 0 ≤ 3) last (λ direct. omega arith) (λ from to. omega arith)
    (λ far. omega arith))
    (λ past low. data_table (λ x. code_of x - 1 + 1 ≤ 3) last (λ direct. omega arith) (λ from to. omega arith)
    (λ far. omega arith))
    (λ far. data_table (λ x. code_of x - (3 + (first - 140) / 128) + 2 ≤ 3) last (λ direct. omega arith)
    (λ from to. omega arith) (λ more. omega arith))
