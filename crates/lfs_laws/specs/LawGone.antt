-- A row is gone only by the Unlink of a file, the Rmdir of an empty directory, or a Rename of another row into its
-- place, of a caller who may take it away.
use Rattle.std.specs.Prelude.{◌≡◌, ◌≢◌, ℕ, List, None, Some, IsSomeAnd}
use Rattle.std.specs.FinMap as map
use Rattle.lfs_types.specs.Caller.{Caller}
use Rattle.lfs_types.specs.Tree.{Row, World, root}
use Rattle.lfs_types.specs.declared.attrs.Kind.{Kind}
use Rattle.lfs_types.specs.declared.attrs.Kind.TheVariants.{File as Regular, Directory}
use Rattle.lfs_types.specs.declared.request.Request.{Request}
use Rattle.lfs_types.specs.declared.request.Request.TheVariants.{Unlink, Rmdir, Rename}
use Rattle.lfs_model.specs.World.{IsChild}
use Rattle.lfs_model.specs.Rules.{reached}
use Rattle.lfs_laws.specs.Rights.{Law, MayTakeAway}

-- another row than that of number n, of this kind
abbrev pub IsAnother : World → ℕ → Kind → ℕ → Type 0
IsAnother w n kind m = (m ≢ n) × IsSomeAnd (map.get w.rows m) (λ r. r.file.kind ≡ kind)

-- the call is to remove the row of this number, of this kind; or to put another of that kind in its place
abbrev pub Removes : World → ℕ → Kind → Request → Type 0
Removes w n Regular (Unlink path) = reached w.rows root path ≡ n
Removes w n Directory (Rmdir path) = reached w.rows root path ≡ n
Removes w n kind (Rename from to) =
    (reached w.rows root to ≡ n) × IsAnother w n kind (reached w.rows root from)
Removes w n kind request = ⊥

-- a caller may remove a row by this call
pub record MayRemove (w : World) (caller : Caller) (request : Request) (n : ℕ) (r : Row) : Type 0 where
  pub taken : MayTakeAway w.rows caller n r.parent
  pub childless : (name : List ℕ) (m : ℕ) → IsChild w.rows n name m → ⊥
  pub asked : Removes w n r.file.kind request

-- where a Rename removed a row, the row that it moved hangs in its place
abbrev pub TakesOver : World → World → Request → Row → Type 0
TakesOver w after (Rename from to) r =
    IsSomeAnd (map.get after.rows (reached w.rows root from)) (λ s. (s.parent ≡ r.parent) × (s.name ≡ r.name))
TakesOver w after request r = Unit {0}

-- a row that is gone was removed by whoever may
abbrev pub Gone : Law
Gone numbers w caller request answer after =
    (n : ℕ) (r : Row) → map.get w.rows n ≡ Some r → map.get after.rows n ≡ None
    → MayRemove w caller request n r × TakesOver w after request r
