-- Codes and ways of a file's blocks. A code is a number: 0 the record, 1 the single indirect block, 2 the double
-- indirect block, 3 + k its k-th child, 131 + n data block n. A way leads from the record to a block: the place of the
-- block's address in the block that holds it, then the way of that block.
use Rattle.std.specs.Prelude.{◌≡◌, ℕ, ◌+◌, ◌-◌, ◌*◌, ◌/◌, ◌%◌, ◌<◌, ◌⊎◌, List, [], ◌∷◌, if◌then◌else◌, ◌==◌, nat_lt, ⊤}
use Rattle.lfs_bmap.specs.declared.blocks.TheConstants.{DIRECT_BLOCKS, FIRST_DATA_CODE, BLOCK_CODES}

-- the way of data block n: direct, under the single indirect block, or under a child of the double indirect block
unfoldable pub data_way : ℕ → List ℕ
data_way n =
    if nat_lt n DIRECT_BLOCKS then n ∷ []
    else (if nat_lt n 140 then (n - 12) ∷ 12 ∷ [] else ((n - 140) % 128) ∷ ((n - 140) / 128) ∷ 13 ∷ [])

-- the way of the block with a code
unfoldable pub way_of : ℕ → List ℕ
way_of code =
    if code == 0 then []
    else (if code == 1 then 12 ∷ []
    else (if code == 2 then 13 ∷ []
    else (if nat_lt code FIRST_DATA_CODE then (code - 3) ∷ 13 ∷ [] else data_way (code - FIRST_DATA_CODE))))

-- the code of the block at the end of a way
unfoldable pub code_at : List ℕ → ℕ
code_at [] = 0
code_at (place ∷ []) = if nat_lt place DIRECT_BLOCKS then FIRST_DATA_CODE + place else place - 11
code_at (cell ∷ place ∷ []) = if place == 12 then 143 + cell else 3 + cell
code_at (cell ∷ child ∷ place ∷ up) = 271 + 128 * child + cell

-- the codes of the blocks on a way, but for the record's
unfoldable pub codes_on : List ℕ → List ℕ
codes_on [] = []
codes_on (i ∷ up) = code_at (i ∷ up) ∷ codes_on up

-- the ways of blocks: 14 addresses in a record, 128 in an indirect block
abbrev pub IsWay : List ℕ → Type 0
IsWay [] = ⊤
IsWay (place ∷ []) = place < 14
IsWay (cell ∷ place ∷ []) = (cell < 128) × ((place ≡ 12) ⊎ (place ≡ 13))
IsWay (cell ∷ child ∷ place ∷ []) = (cell < 128) × (child < 128) × (place ≡ 13)
IsWay (cell ∷ child ∷ place ∷ next ∷ up) = ⊥

-- the way of a block that a file of this profile can have
pub record IsBlockWay (way : List ℕ) : Type 0 where
  pub leads : IsWay way
  pub coded : code_at way < BLOCK_CODES
