-- A mode changes only by a Chmod of the row's owner, or loses its set-id bits where the row is written or given away.
use Rattle.std.specs.Prelude.{◌≡◌, ◌≢◌, ◌⊎◌, ℕ, true, Some}
use Rattle.std.specs.FinMap as map
use Rattle.lfs_types.specs.Caller.{Caller}
use Rattle.lfs_types.specs.Tree.{Row, World, root, attrs_of}
use Rattle.lfs_types.specs.declared.attrs.Kind.TheVariants.{File as Regular}
use Rattle.lfs_types.specs.declared.request.Request.{Request}
use Rattle.lfs_types.specs.declared.request.Request.TheVariants.{Chmod}
use Rattle.lfs_rules.specs.Locks.{is_append_only}
use Rattle.lfs_rules.specs.SetId.{set_id_cleared}
use Rattle.lfs_model.specs.Rules.{reached}
use Rattle.lfs_laws.specs.LawOwner.{SetsOwner}
use Rattle.lfs_laws.specs.LawRewritten.{Appends, Rewrites}
use Rattle.lfs_laws.specs.Rights.{Law, MayRetitle, MayWrite}

-- the call is to set this mode of the row of this number
abbrev pub SetsMode : World → ℕ → ℕ → Request → Type 0
SetsMode w n mode (Chmod path new) = (reached w.rows root path ≡ n) × (new ≡ mode)
SetsMode w n mode request = ⊥

-- a Chmod, by which nothing else of the row changes
pub record IsChmod (w : World) (caller : Caller) (request : Request) (n : ℕ) (r s : Row) : Type 0 where
  pub allowed : MayRetitle w.rows caller n
  pub asked : SetsMode w n s.file.mode request
  pub rest : s ≡ record r { file = record r.file { mode = s.file.mode } }

-- the set-id bits are lost by a caller other than the superuser, who gives the row away, or writes the file, at its
-- end if it is append-only
pub record LosesSetId (w : World) (caller : Caller) (request : Request) (n : ℕ) (r s : Row) : Type 0 where
  pub cleared : s.file.mode ≡ set_id_cleared r.file.mode
  pub ordinary : caller.uid ≢ 0
  pub allowed : (MayRetitle w.rows caller n × SetsOwner w n s.file.uid s.file.gid request)
      ⊎ ((r.file.kind ≡ Regular) × MayWrite w.rows caller n × Rewrites w n request
      × (is_append_only (attrs_of r.file) ≡ true → Appends request))

-- a row that has another mode got it by whoever may, or lost its set-id bits
abbrev pub Remoded : Law
Remoded numbers w caller request answer after =
    (n : ℕ) (r s : Row) → map.get w.rows n ≡ Some r → map.get after.rows n ≡ Some s
    → s.file.mode ≢ r.file.mode → IsChmod w caller request n r s ⊎ LosesSetId w caller request n r s
