-- A refusal is true: the call was allowed, and what it lacked was wanting.
use Rattle.std.specs.Prelude.{ℕ, ◌<◌, ◌≤◌, List, length, IsSome}
use Rattle.std.specs.FinMap as map
use Rattle.lfs_types.specs.Caller.{Caller}
use Rattle.lfs_types.specs.Tree.{World}
use Rattle.lfs_types.specs.declared.answer.Answer.TheVariants.{Refused}
use Rattle.lfs_types.specs.declared.answer.Resource.{Resource}
use Rattle.lfs_types.specs.declared.answer.Resource.TheVariants.{NoMemory, NoSpace, NoInodes, DirectoryFull}
use Rattle.lfs_types.specs.declared.answer.Resource.TheVariants.{JournalFull}
use Rattle.lfs_types.specs.declared.request.Request.{Request}
use Rattle.lfs_types.specs.declared.request.Request.TheVariants.{Stat, Read, List as Names, Create, Mkdir, Rename}
use Rattle.lfs_types.specs.declared.request.Request.TheVariants.{SetLevel}
use Rattle.lfs_model.specs.declared.journal.Event.TheVariants.{User}
use Rattle.lfs_model.specs.World.{Rows, IsChild, IsTree}
use Rattle.lfs_model.specs.Steps.{IsEvent}
use Rattle.lfs_laws.specs.LawHidden.{IsMaking}
use Rattle.lfs_laws.specs.LawServed.{May}
use Rattle.lfs_laws.specs.LawShown.{AreNames}
use Rattle.lfs_laws.specs.Rights.{LeadsTo}

-- a path leads to a free name in a directory that has at least 16,524 names
pub record IsFull (rows : Rows) (path : List (List ℕ)) : Type 0 where
  pub parent : ℕ
  pub name : List ℕ
  pub leads : LeadsTo rows path parent name
  pub free : (m : ℕ) → IsChild rows parent name m → ⊥
  pub names : List (List ℕ)
  pub those : AreNames rows parent names
  pub many : 16_524 ≤ length names

-- the directory in which the call makes a name has that many
abbrev pub FillsUp : World → Request → Type 0
FillsUp w (Create path mode) = IsFull w.rows path
FillsUp w (Mkdir path mode) = IsFull w.rows path
FillsUp w (Rename from to) = IsFull w.rows to
FillsUp w request = ⊥

-- the call writes to the store, or asks it to write: not a Stat, a Read, a List or a SetLevel
abbrev pub IsWriting : Request → Type 0
IsWriting (Stat path) = ⊥
IsWriting (Read path off len) = ⊥
IsWriting (Names path) = ⊥
IsWriting (SetLevel level) = ⊥
IsWriting request = Unit {0}

-- what a refused call lacked was wanting: each number from 4 up has a row; the directory is full; the store may want
-- room. No other refusal has an entry.
abbrev pub Lacked : ℕ → World → Request → Resource → Type 0
Lacked numbers w request NoInodes = IsMaking request × ((n : ℕ) → 4 ≤ n → n < numbers → IsSome (map.get w.rows n))
Lacked numbers w request DirectoryFull = FillsUp w request
Lacked numbers w request NoSpace = IsWriting request
Lacked numbers w request NoMemory = ⊥
Lacked numbers w request JournalFull = ⊥

-- so each refusal, of a caller who may make the call
abbrev pub RefusedTruly : Type 0
RefusedTruly =
    (numbers segments : ℕ) (w : World) (caller : Caller) (request : Request) (resource : Resource)
    → IsTree w.rows
    → IsEvent numbers segments w caller (User request (Refused resource))
    → May w caller request × Lacked numbers w request resource
