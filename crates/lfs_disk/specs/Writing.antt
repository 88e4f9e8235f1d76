-- Blocks that are written over others, those of a log's end, and what is there on the way.
use Rattle.std.specs.Prelude.{◌≡◌, ◌⊎◌, ℕ, ◌<◌, ◌≤◌, List, [], length, slice_index_or}
use Rattle.lfs_types.specs.Blocks.{zero_block}

-- as many blocks, and the same ones but for those at addresses from one up to another
pub record IsSameBut (start end : ℕ) (old new : List (List ℕ)) : Type 0 where
  pub long : length new ≡ length old
  pub outside : (a : ℕ) → (a < start) ⊎ (end ≤ a) → slice_index_or new a [] ≡ slice_index_or old a []

-- and those are others' blocks
pub record HasOthers (others : List (List ℕ)) (start end : ℕ) (old new : List (List ℕ)) : Type 0 where
  pub same : IsSameBut start end old new
  pub inside : (a : ℕ) → start ≤ a → a < end → slice_index_or new a [] ≡ slice_index_or others a []

-- but for those they are some list of blocks that a crash might have left
abbrev pub IsLeftBut : ℕ → ℕ → (List (List ℕ) → Type 0) → List (List ℕ) → Type 0
IsLeftBut start end may_leave c = (d : List (List ℕ)) × may_leave d × IsSameBut start end d c

-- only those from the first on have changed, and the first is zeros
pub record IsWithoutFirst (first end : ℕ) (old new : List (List ℕ)) : Type 0 where
  pub zeros : slice_index_or new first [] ≡ zero_block
  pub same : IsSameBut first end old new

-- of blocks that are written from the first on none was yet, or some were and the first is zeros, or all were
abbrev pub IsOnTheWay : ℕ → ℕ → List (List ℕ) → List (List ℕ) → List (List ℕ) → Type 0
IsOnTheWay first end old new c = (c ≡ old) ⊎ (IsWithoutFirst first end old c ⊎ (c ≡ new))
