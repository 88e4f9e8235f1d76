-- Codes and ways are each other's inverse (`code_at-way_of`, `way_of-code_at`), and the rest of a way is a way
-- (`up_known`): so the code, which the cache and the map of waiting blocks use, tells blocks apart as the way does, on
-- which ReadingLemmas goes. `code_ind` takes a code apart into record, two indirect blocks, children and data blocks;
-- for the last the way's shape turns at 12 and at 140, and arithmetic with 128 gives it back. Another width of a table
-- changes all these numbers; `no_way_through` says that nothing stands under a data block.
use Rattle.std.proofs.Common.{◌≡◌, ◌≢◌, ℕ, zero, suc, subst, lit<, ◌+◌, ◌-◌, ◌*◌, ◌/◌, ◌%◌, ◌<◌, ◌≤◌, ◌⊎◌, inl, inr}
use Rattle.std.proofs.Common.{List, [], ◌∷◌, refl, sym, ap, ◌∙◌, arith}
use Rattle.std.proofs.lemmas.Bool.{cases_lt, cases_eq, cond-true, cond-false, ne_eqb, lt-ltb, le-ltb}
use Rattle.lfs_bmap.specs.declared.blocks.FileBlock.{FileBlock}
use Rattle.lfs_bmap.specs.declared.blocks.FileBlock.TheVariants.{Record, Single, Double, Child, Data}
use Rattle.lfs_bmap.specs.declared.blocks.TheConstants.{BLOCK_CODES}
use Rattle.lfs_bmap.specs.Blocks.{IsFileBlock, code_of, table_at, way_to}
use Rattle.lfs_bmap.specs.Ways.{data_way, way_of, code_at, IsWay, IsBlockWay}

-- the number of codes with the double indirect block: 131 and 16,524 data blocks
abbrev pub all_codes : ℕ
all_codes = 16655

-- The way of a data block, by cases.
pub data_way-direct : (n : ℕ) → n < 12 → data_way n ≡ n ∷ []
unfolding data_way
data_way-direct n h = cond-true _ _ _ (lt-ltb n 12 h)

pub data_way-single : (n : ℕ) → 12 ≤ n → n < 140 → data_way n ≡ (n - 12) ∷ 12 ∷ []
unfolding data_way
data_way-single n low high = cond-false _ _ _ (le-ltb n 12 low) ∙ cond-true _ _ _ (lt-ltb n 140 high)

pub data_way-double : (n : ℕ) → 140 ≤ n → data_way n ≡ ((n - 140) % 128) ∷ ((n - 140) / 128) ∷ 13 ∷ []
unfolding data_way
data_way-double n h = cond-false _ _ _ (le-ltb n 12 (omega arith)) ∙ cond-false _ _ _ (le-ltb n 140 h)

-- from block 12 on, the data blocks stand under their indirect blocks by 128
pub data_way-under : (n : ℕ) → 12 ≤ n → data_way n ≡ ((n - 12) % 128) ∷ way_to (table_at ((n - 12) / 128))
data_way-under n h =
    elim (cases_lt n 140) [
      | inl low ↦
          let none : (n - 12) / 128 ≡ 0 = omega arith in
          let same : (n - 12) % 128 ≡ n - 12 = omega arith in
          data_way-single n h low ∙ ap (λ j. j ∷ 12 ∷ []) (sym same)
          ∙ ap (λ t. ((n - 12) % 128) ∷ way_to (table_at t)) (sym none)
      | inr high ↦
          let more : (n - 12) / 128 ≡ suc ((n - 140) / 128) = omega arith in
          let same : (n - 12) % 128 ≡ (n - 140) % 128 = omega arith in
          data_way-double n high ∙ ap (λ j. j ∷ ((n - 140) / 128) ∷ 13 ∷ []) (sym same)
          ∙ ap (λ t. ((n - 12) % 128) ∷ way_to (table_at t)) (sym more)
    ]

-- The way of a code, by cases.
pub way_of-child : (k : ℕ) → k < 128 → way_of (3 + k) ≡ k ∷ 13 ∷ []
unfolding way_of
way_of-child k h =
    let e : 3 + k - 3 ≡ k = omega arith in
    cond-false _ _ _ (ne_eqb (3 + k) 0 (λ p. omega arith)) ∙ cond-false _ _ _ (ne_eqb (3 + k) 1 (λ p. omega arith))
    ∙ cond-false _ _ _ (ne_eqb (3 + k) 2 (λ p. omega arith)) ∙ cond-true _ _ _ (lt-ltb (3 + k) 131 (omega arith))
    ∙ ap (λ m. m ∷ 13 ∷ []) e

pub way_of-data : (n : ℕ) → way_of (131 + n) ≡ data_way n
unfolding way_of
way_of-data n =
    let e : 131 + n - 131 ≡ n = omega arith in
    cond-false _ _ _ (ne_eqb (131 + n) 0 (λ p. omega arith)) ∙ cond-false _ _ _ (ne_eqb (131 + n) 1 (λ p. omega arith))
    ∙ cond-false _ _ _ (ne_eqb (131 + n) 2 (λ p. omega arith)) ∙ cond-false _ _ _ (le-ltb (131 + n) 131 (omega arith))
    ∙ ap data_way e

-- the way of a block's code is its way
pub way_of-code_of : (block : FileBlock) → IsFileBlock block → way_of (code_of block) ≡ way_to block
unfolding way_of
way_of-code_of Record is = refl
way_of-code_of Single is = refl
way_of-code_of Double is = refl
way_of-code_of (Child k) is = way_of-child k is
way_of-code_of (Data n) is = way_of-data n

-- The code at a way, by cases.
code_at-direct : (n : ℕ) → n < 12 → code_at (n ∷ []) ≡ 131 + n
unfolding code_at
code_at-direct n h = cond-true _ _ _ (lt-ltb n 12 h)

code_at-single : (j : ℕ) → code_at (j ∷ 12 ∷ []) ≡ 143 + j
unfolding code_at
code_at-single j = refl

code_at-child : (j : ℕ) → code_at (j ∷ 13 ∷ []) ≡ 3 + j
unfolding code_at
code_at-child j = refl

code_at-double : (j k : ℕ) → code_at (j ∷ k ∷ 13 ∷ []) ≡ 271 + 128 * k + j
unfolding code_at
code_at-double j k = refl

code_at-record : code_at (way_of 0) ≡ 0
unfolding way_of code_at
code_at-record = refl

code_at-first : code_at (way_of 1) ≡ 1
unfolding way_of code_at
code_at-first = refl

code_at-second : code_at (way_of 2) ≡ 2
unfolding way_of code_at
code_at-second = refl

way-record : 0 < all_codes → IsWay (way_of 0)
unfolding way_of
way-record h = tt

way-first : 1 < all_codes → IsWay (way_of 1)
unfolding way_of
way-first h = lit< tt

way-second : 2 < all_codes → IsWay (way_of 2)
unfolding way_of
way-second h = lit< tt

pub way_of-zero : way_of 0 ≡ []
unfolding way_of
way_of-zero = refl

-- no way begins with an index
pub nothing : (i : ℕ) (up : List ℕ) → (let none : List ℕ = [] in none) ≡ i ∷ up → ⊥
nothing i up e = cc

way_of-none : way_of (code_at []) ≡ []
unfolding way_of code_at
way_of-none = refl

way_of-first : way_of (code_at (12 ∷ [])) ≡ 12 ∷ []
unfolding way_of code_at
way_of-first = refl

way_of-second : way_of (code_at (13 ∷ [])) ≡ 13 ∷ []
unfolding way_of code_at
way_of-second = refl

up_code-record : code_at [] < 131
unfolding code_at
up_code-record = lit< tt

up_code-place : (place : ℕ) → (place ≡ 12) ⊎ (place ≡ 13) → code_at (place ∷ []) < 131
unfolding code_at
up_code-place place (inl e) = subst (λ p. code_at (p ∷ []) < 131) (sym e) (lit< tt)
up_code-place place (inr e) = subst (λ p. code_at (p ∷ []) < 131) (sym e) (lit< tt)

-- a data block's code is found at its way
pub code_at-data : (n : ℕ) → code_at (data_way n) ≡ 131 + n
code_at-data n =
    elim (cases_lt n 12) [
      | inl direct ↦ ap code_at (data_way-direct n direct) ∙ code_at-direct n direct
      | inr past ↦ elim (cases_lt n 140) [
        | inl single ↦ ap code_at (data_way-single n past single) ∙ code_at-single (n - 12) ∙ omega arith
        | inr double ↦ ap code_at (data_way-double n double) ∙ code_at-double ((n - 140) % 128) ((n - 140) / 128)
            ∙ omega arith
      ]
    ]

-- what holds of the record, the indirect blocks and the data blocks holds of every code
code_ind : (P : ℕ → Type 0) → P 0 → P 1 → P 2 → ((k : ℕ) → k < 128 → P (3 + k)) → ((n : ℕ) → P (131 + n)) → (code : ℕ)
    → P code
code_ind P record_ single double child data_ zero = record_
code_ind P record_ single double child data_ (suc zero) = single
code_ind P record_ single double child data_ (suc (suc zero)) = double
code_ind P record_ single double child data_ (suc (suc (suc n))) =
    elim (cases_lt n 128) [
      | inl low ↦ let e : 3 + n ≡ suc (suc (suc n)) = omega arith in subst P e (child n low)
      | inr high ↦ let e : 131 + (n - 128) ≡ suc (suc (suc n)) = omega arith in subst P e (data_ (n - 128))
    ]

-- a code is the code at its way
pub code_at-way_of : (code : ℕ) → code_at (way_of code) ≡ code
code_at-way_of =
    code_ind (λ code. code_at (way_of code) ≡ code) code_at-record code_at-first code_at-second
    (λ k low. ap code_at (way_of-child k low) ∙ code_at-child k) (λ n. ap code_at (way_of-data n) ∙ code_at-data n)

-- so two codes have two ways
pub same_code : (c d : ℕ) → way_of c ≡ way_of d → c ≡ d
same_code c d e = sym (code_at-way_of c) ∙ ap code_at e ∙ code_at-way_of d

-- the way of a data block is a way
data_way-way : (n : ℕ) → n < 16524 → IsWay (data_way n)
data_way-way n h =
    elim (cases_lt n 12) [
      | inl direct ↦ subst IsWay (sym (data_way-direct n direct)) (let below : n < 14 = omega arith in below)
      | inr past ↦ elim (cases_lt n 140) [
        | inl single ↦ subst IsWay (sym (data_way-single n past single)) (omega arith, inl refl)
        | inr double ↦ subst IsWay (sym (data_way-double n double)) (omega arith, omega arith, refl)
      ]
    ]

-- what leads to the block of a code is a way
pub way_of-way : (code : ℕ) → code < all_codes → IsWay (way_of code)
way_of-way =
    code_ind (λ code. code < all_codes → IsWay (way_of code)) way-record way-first way-second
    (λ k low h. subst IsWay (sym (way_of-child k low)) (low, inr refl))
    (λ n h. subst IsWay (sym (way_of-data n)) (data_way-way n (omega arith)))

way_of-direct : (place : ℕ) → place < 12 → way_of (code_at (place ∷ [])) ≡ place ∷ []
way_of-direct place h = ap way_of (code_at-direct place h) ∙ way_of-data place ∙ data_way-direct place h

way_of-place : (place : ℕ) → (place < 12) ⊎ ((place ≡ 12) ⊎ (place ≡ 13)) → way_of (code_at (place ∷ [])) ≡ place ∷ []
way_of-place place (inl h) = way_of-direct place h
way_of-place place (inr (inl e)) = subst (λ p. way_of (code_at (p ∷ [])) ≡ p ∷ []) (sym e) way_of-first
way_of-place place (inr (inr e)) = subst (λ p. way_of (code_at (p ∷ [])) ≡ p ∷ []) (sym e) way_of-second

way_of-cell : (cell place : ℕ) → cell < 128 → (place ≡ 12) ⊎ (place ≡ 13) → way_of (code_at (cell ∷ place ∷ [])) ≡ cell
    ∷ place ∷ []
way_of-cell cell place h (inl e) =
    let moved : 143 + cell ≡ 131 + (12 + cell) = omega arith in
    let back : 12 + cell - 12 ≡ cell = omega arith in
    subst (λ p. way_of (code_at (cell ∷ p ∷ [])) ≡ cell ∷ p ∷ []) (sym e)
    (ap way_of (code_at-single cell ∙ moved) ∙ way_of-data (12 + cell)
    ∙ data_way-single (12 + cell) (omega arith) (omega arith) ∙ ap (λ j. j ∷ 12 ∷ []) back)
way_of-cell cell place h (inr e) =
    subst (λ p. way_of (code_at (cell ∷ p ∷ [])) ≡ cell ∷ p ∷ []) (sym e) (ap way_of (code_at-child cell)
    ∙ way_of-child cell h)

way_of-under : (cell child place : ℕ) → cell < 128 → child < 128 → place ≡ 13
    → way_of (code_at (cell ∷ child ∷ place ∷ [])) ≡ cell ∷ child ∷ place ∷ []
way_of-under cell child place h k e =
    let moved : 271 + 128 * child + cell ≡ 131 + (140 + 128 * child + cell) = omega arith in
    let low : (140 + 128 * child + cell - 140) % 128 ≡ cell = omega arith in
    let high : (140 + 128 * child + cell - 140) / 128 ≡ child = omega arith in
    subst (λ p. way_of (code_at (cell ∷ child ∷ p ∷ [])) ≡ cell ∷ child ∷ p ∷ []) (sym e)
    (ap way_of (code_at-double cell child ∙ moved) ∙ way_of-data (140 + 128 * child + cell)
    ∙ data_way-double (140 + 128 * child + cell) (omega arith)
    ∙ ap (λ j. j ∷ ((140 + 128 * child + cell - 140) / 128) ∷ 13 ∷ []) low ∙ ap (λ j. cell ∷ j ∷ 13 ∷ []) high)

-- a way is the way of the code at it
pub way_of-code_at : (way : List ℕ) → IsWay way → way_of (code_at way) ≡ way
way_of-code_at [] h = way_of-none
way_of-code_at (place ∷ []) h =
    way_of-place place (elim (cases_lt place 12) as (λ w. (place < 12) ⊎ ((place ≡ 12) ⊎ (place ≡ 13))) [
      | inl low ↦ inl low
      | inr high ↦ elim (cases_eq place 12) as (λ w. (place < 12) ⊎ ((place ≡ 12) ⊎ (place ≡ 13))) [
        | inl e ↦ inr (inl e)
        | inr ne ↦ inr (inr (omega arith))
      ]
    ])
way_of-code_at (cell ∷ place ∷ []) h = way_of-cell cell place h.0 h.1
way_of-code_at (cell ∷ child ∷ place ∷ []) h = way_of-under cell child place h.0 h.1 h.2
way_of-code_at (cell ∷ child ∷ place ∷ next ∷ up) h = absurd h

-- behind the first place of a way comes a way
pub up_way : (i : ℕ) (up : List ℕ) → IsWay (i ∷ up) → IsWay up
up_way i [] h = tt
up_way i (place ∷ []) h =
    let below : place < 14 = elim h.1 [ inl e ↦ omega arith | inr e ↦ omega arith ] in below
up_way i (child ∷ place ∷ []) h = (h.1, inr h.2)
up_way i (child ∷ place ∷ next ∷ up) h = absurd h

-- and it leads to a record or an indirect block
pub up_code : (i : ℕ) (up : List ℕ) → IsWay (i ∷ up) → code_at up < 131
up_code i [] h = up_code-record
up_code i (place ∷ []) h = up_code-place place h.1
up_code i (child ∷ place ∷ []) h =
    subst (λ p. code_at (child ∷ p ∷ []) < 131) (sym h.2)
    (subst (λ n. n < 131) (sym (code_at-child child)) (let low = h.1 in omega arith))
up_code i (child ∷ place ∷ next ∷ up) h = absurd h

-- the block that holds the address of a known block is known
pub up_known : (i : ℕ) (up : List ℕ) → IsBlockWay (i ∷ up) → IsBlockWay up
up_known i up h = let low = up_code i up h.leads in record { leads = up_way i up h.leads; coded = omega arith }

-- the way of a code of this profile is known
pub way_of-known : (code : ℕ) → code < BLOCK_CODES → IsBlockWay (way_of code)
way_of-known code h = record {
  leads = way_of-way code (omega arith);
  coded = subst (λ c. c < BLOCK_CODES) (sym (code_at-way_of code)) h;
}

-- a known way is that of a code of this profile
pub known_way_of : (way : List ℕ) → IsBlockWay way → way_of (code_at way) ≡ way
known_way_of way h = way_of-code_at way h.leads

-- two known ways are one or differ
pub cases_way : (v w : List ℕ) → IsBlockWay v → IsBlockWay w → (v ≡ w) ⊎ (v ≢ w)
cases_way v w p q =
    elim (cases_eq (code_at v) (code_at w)) [
      | inl e ↦ inl (sym (known_way_of v p) ∙ ap way_of e ∙ known_way_of w q)
      | inr ne ↦ inr (λ e. ne (ap code_at e))
    ]

-- no way goes through a data block
pub no_way_through : (code i : ℕ) → 131 ≤ code → IsWay (i ∷ way_of code) → ⊥
no_way_through code i h leads =
    let low = up_code i (way_of code) leads in
    let same = code_at-way_of code in
    omega arith
