-- How far a walk is: the numbers that it reached, in order, and a mark of each.
use Rattle.std.specs.Prelude.{◌≡◌, ℕ, suc, ◌+◌, Bool, true, false, List, [], ◌∷◌, ◌++◌, length}
use Rattle.std.specs.Prelude.{slice_index_or}
use Rattle.std.specs.List.{Contains}
use Rattle.lfs_types.specs.Ranges.{most_inodes}

-- how many have no mark
abbrev pub unmarked : List Bool → ℕ
unmarked [] = 0
unmarked (true ∷ marks) = unmarked marks
unmarked (false ∷ marks) = suc (unmarked marks)

-- the numbers of an order are those that are marked, and it has each once
pub record IsWalk (marks : List Bool) (order : List ℕ) : Type 0 where
  pub long : length marks ≡ most_inodes
  pub marked : (n : ℕ) → slice_index_or marks n false ≡ true → Contains order n
  pub ordered : (n : ℕ) → Contains order n → slice_index_or marks n false ≡ true
  pub counted : length order + unmarked marks ≡ most_inodes

-- an order goes on with numbers of which each has a property, and has each that has it
pub record Adds (P : ℕ → Type 0) (old new : List ℕ) : Type 0 where
  pub more : List ℕ
  pub is : new ≡ old ++ more
  pub only : (n : ℕ) → Contains more n → P n
  pub all : (n : ℕ) → P n → Contains new n
