-- A new row is made by a Create or a Mkdir of a caller who may place it, with the least number that no row has.
use Rattle.std.specs.Prelude.{◌≡◌, ◌<◌, ◌≤◌, ℕ, [], None, Some, IsSome}
use Rattle.std.specs.FinMap as map
use Rattle.lfs_types.specs.Caller.{Caller}
use Rattle.lfs_types.specs.Tree.{Row, World}
use Rattle.lfs_types.specs.declared.attrs.Kind.TheVariants.{File as Regular, Directory}
use Rattle.lfs_types.specs.declared.limits.TheConstants.{FIRST_INODE}
use Rattle.lfs_types.specs.declared.request.Request.{Request}
use Rattle.lfs_types.specs.declared.request.Request.TheVariants.{Create, Mkdir}
use Rattle.lfs_model.specs.World.{Rows}
use Rattle.lfs_model.specs.Rules.{attrs_at}
use Rattle.lfs_laws.specs.Rights.{Law, LeadsTo, MayPlace}

-- the call is to make this row
abbrev pub Makes : World → Row → Request → Type 0
Makes w s (Create path mode) =
    (s.file.kind ≡ Regular) × (mode ≡ s.file.mode) × LeadsTo w.rows path s.parent s.name
Makes w s (Mkdir path mode) =
    (s.file.kind ≡ Directory) × (mode ≡ s.file.mode) × LeadsTo w.rows path s.parent s.name
Makes w s request = ⊥

-- the least number from 4 up and below the volume's number of inode numbers that no row has
pub record IsLeastUnused (numbers : ℕ) (rows : Rows) (n : ℕ) : Type 0 where
  pub first : FIRST_INODE ≤ n
  pub within : n < numbers
  pub unused : map.get rows n ≡ None
  pub least : (k : ℕ) → FIRST_INODE ≤ k → k < n → IsSome (map.get rows k)

-- A caller may make this row by this call: he is its owner, its group is its parent's, and it has no flags and no
-- bytes.
pub record MayMake (numbers : ℕ) (w : World) (caller : Caller) (request : Request) (n : ℕ) (s : Row) : Type 0 where
  pub placed : MayPlace w.rows caller s.parent s.name
  pub number : IsLeastUnused numbers w.rows n
  pub owner : s.file.uid ≡ caller.uid
  pub group : s.file.gid ≡ (attrs_at w.rows s.parent).gid
  pub flags : s.file.flags ≡ 0
  pub bytes : s.file.bytes ≡ []
  pub asked : Makes w s request

-- a row that wasn't there was made by whoever may
abbrev pub New : Law
New numbers w caller request answer after =
    (n : ℕ) (s : Row) → map.get w.rows n ≡ None → map.get after.rows n ≡ Some s → MayMake numbers w caller request n s
