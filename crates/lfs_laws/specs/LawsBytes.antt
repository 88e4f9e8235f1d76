-- Who wrote a byte last.
use Rattle.std.specs.Prelude.{◌≡◌, ◌⊎◌, ℕ, ◌+◌, ◌<◌, ◌≤◌, List, ◌∷◌, ◌++◌, length, get_or, Some}
use Rattle.std.specs.FinMap as map
use Rattle.lfs_types.specs.Caller.{Caller}
use Rattle.lfs_types.specs.Tree.{Row, World, root, opening_world}
use Rattle.lfs_types.specs.declared.attrs.Kind.TheVariants.{File as Regular}
use Rattle.lfs_types.specs.declared.limits.TheConstants.{FIRST_INODE}
use Rattle.lfs_types.specs.declared.request.Request.{Request}
use Rattle.lfs_types.specs.declared.request.Request.TheVariants.{Write, SetLength, Create}
use Rattle.lfs_model.specs.declared.journal.Entry.{Entry}
use Rattle.lfs_model.specs.World.{IsTree, file_at}
use Rattle.lfs_model.specs.Rules.{reached, start_in}
use Rattle.lfs_model.specs.Effects.{least_unused}
use Rattle.lfs_laws.specs.LawsRuns.{IsServed, NoneServed}
use Rattle.lfs_model.specs.Steps.{IsLegal, after_event, world_after, world_of}

-- bytes that are put at a start have this value for byte i of the file
pub record Covers (start : ℕ) (bytes : List ℕ) (i value : ℕ) : Type 0 where
  pub k : ℕ
  pub inside : k < length bytes
  pub at : start + k ≡ i
  pub is : get_or bytes k 0 ≡ value

-- A call that is served in this world sets byte i of the file of this number to a value: a Write that covers the
-- byte, a SetLength to at most i, or the Create that makes the file. A path leads to the file's number in this world.
abbrev pub SetsByte : ℕ → World → ℕ → ℕ → ℕ → Request → Type 0
SetsByte numbers w n i value (Write path place bytes) =
    (reached w.rows root path ≡ n)
    × Covers (start_in place (length (file_at (map.get w.rows n)).bytes)) bytes i value
SetsByte numbers w n i value (SetLength path len) = (reached w.rows root path ≡ n) × (len ≤ i) × (value ≡ 0)
SetsByte numbers w n i value (Create path mode) = (least_unused w.rows numbers FIRST_INODE ≡ n) × (value ≡ 0)
SetsByte numbers w n i value request = ⊥

-- a call sets byte i of the file of this number, to whatever value
abbrev pub SetsSome : ℕ → ℕ → ℕ → World → Caller → Request → Type 0
SetsSome numbers n i w caller request = (value : ℕ) × SetsByte numbers w n i value request

-- of the entries since a world, the last served call that sets byte i of the file of this number sets it to a value
pub record IsLastSet (numbers : ℕ) (w : World) (entries : List Entry) (n i value : ℕ) : Type 0 where
  pub before : List Entry
  pub entry : Entry
  pub later : List Entry
  pub split : before ++ entry ∷ later ≡ entries
  pub sets : IsServed (SetsByte numbers (world_after numbers before w) n i value) entry.event
  pub last : NoneServed (SetsSome numbers n i) numbers later
      (after_event numbers (world_after numbers before w) entry.cred entry.event)

-- none of them sets it, and the file of this number had that value there in the world, or 0 where it had no byte
pub record IsNeverSet (numbers : ℕ) (w : World) (entries : List Entry) (n i value : ℕ) : Type 0 where
  pub none : NoneServed (SetsSome numbers n i) numbers entries w
  pub row : Row
  pub there : map.get w.rows n ≡ Some row
  pub kind : row.file.kind ≡ Regular
  pub was : get_or row.file.bytes i 0 ≡ value

-- each byte of a file is what the last call that set it made of it, or what it was in the beginning
abbrev pub LastWritten : Type 0
LastWritten =
    (numbers segments : ℕ) (entries : List Entry) (w : World) (n : ℕ) (r : Row) (i : ℕ)
    → IsTree w.rows
    → IsLegal numbers segments entries w
    → map.get (world_after numbers entries w).rows n ≡ Some r
    → i < length r.file.bytes
    → IsLastSet numbers w entries n i (get_or r.file.bytes i 0)
    ⊎ IsNeverSet numbers w entries n i (get_or r.file.bytes i 0)

-- from the opening world on, which has no file, it is the former
abbrev pub LastWrittenSinceOpening : Type 0
LastWrittenSinceOpening =
    (numbers segments : ℕ) (entries : List Entry) (n : ℕ) (r : Row) (i : ℕ)
    → IsLegal numbers segments entries opening_world
    → map.get (world_of numbers entries).rows n ≡ Some r
    → i < length r.file.bytes
    → IsLastSet numbers opening_world entries n i (get_or r.file.bytes i 0)
