-- The records that wait to be written.
use Rattle.std.specs.Prelude.{◌≡◌, ◌≢◌, ℕ, ◌<◌, ◌≤◌, List, [], ◌∷◌, All, Bool, false, Option, None, find, length}
use Rattle.std.specs.Prelude.{slice_index_or, if◌then◌else◌, ◌==◌, ⊤}
use Rattle.std.specs.Option.{is_some}
use Rattle.lfs_types.specs.Ranges.{most_inodes}
use Rattle.lfs_inodes.specs.declared.inode.Inode.{Inode}
use Rattle.lfs_parts.specs.declared.records.TheConstants.{WAITING_LIMIT}
use Rattle.std.specs.Prelude.{map, Some, slice_set}
use Rattle.std.specs.List.{position_or_len}

-- the first of some records that has a number
abbrev pub waiting_in : List Inode → ℕ → Option Inode
waiting_in records number = find (λ (v : Inode). v.number == number) records

-- some records without the first of a number
unfoldable pub without : ℕ → List Inode → List Inode
without number [] = []
without number (v ∷ vs) = if v.number == number then vs else v ∷ without number vs

-- of each number but one the record waits that waited, or none does
abbrev pub KeepsOtherRecords : ℕ → List Inode → List Inode → Type 0
KeepsOtherRecords number old new = (n : ℕ) → n ≢ number → waiting_in new n ≡ waiting_in old n

-- no two of some records are of one number
unfoldable pub AreOnce : List Inode → Type 0
AreOnce [] = ⊤
AreOnce (v ∷ vs) = (waiting_in vs v.number ≡ None) × AreOnce vs

-- a record's number is below the greatest count of inode numbers
abbrev pub IsNumbered : Inode → Type 0
IsNumbered v = v.number < most_inodes

-- Some records, each of another number, and for each number whether one of them is of it; there is room for all that
-- may wait.
pub record IsRecords (records : List Inode) (waits : List Bool) (capacity : ℕ) : Type 0 where
  pub room : WAITING_LIMIT ≤ capacity
  pub once : AreOnce records
  pub numbered : All IsNumbered records
  pub sized : length waits ≡ most_inodes
  pub told : (number : ℕ) → number < most_inodes → slice_index_or waits number false
      ≡ is_some (waiting_in records number)

-- some records with another one in place of the first of its number
abbrev pub replaced : List Inode → Inode → List Inode
replaced records v = slice_set records (position_or_len (λ (w : Inode). w.number == v.number) records) v

-- their numbers, in order
abbrev pub numbers_of : List Inode → List ℕ
numbers_of records = map (λ (v : Inode). v.number) records

-- Of some records, that of a number was replaced.
pub record Replaces (old new : List Inode) (v : Inode) : Type 0 where
  pub here : waiting_in new v.number ≡ Some v
  pub others : (number : ℕ) → number ≢ v.number → waiting_in new number ≡ waiting_in old number
  pub numbers : numbers_of new ≡ numbers_of old
