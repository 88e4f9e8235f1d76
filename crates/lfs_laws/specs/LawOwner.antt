-- An owner or a group changes only by a Chown of the superuser, or of an owner who gives one of his groups.
use Rattle.std.specs.Prelude.{◌≡◌, ◌⊎◌, ℕ, true, Some}
use Rattle.std.specs.FinMap as map
use Rattle.lfs_types.specs.Caller.{Caller}
use Rattle.lfs_types.specs.Tree.{File, Row, World, root}
use Rattle.lfs_types.specs.declared.request.Request.{Request}
use Rattle.lfs_types.specs.declared.request.Request.TheVariants.{Chown}
use Rattle.lfs_rules.specs.Owners.{is_in_group}
use Rattle.lfs_model.specs.Rules.{reached}
use Rattle.lfs_laws.specs.Rights.{Law, MayRetitle}

-- the call is to set this owner and this group of the row of this number
abbrev pub SetsOwner : World → ℕ → ℕ → ℕ → Request → Type 0
SetsOwner w n uid gid (Chown path owner group) = (reached w.rows root path ≡ n) × (owner ≡ uid) × (group ≡ gid)
SetsOwner w n uid gid request = ⊥

-- a file has the owner and the group that another had
pub record SameOwner (old new : File) : Type 0 where
  pub uid : new.uid ≡ old.uid
  pub gid : new.gid ≡ old.gid

-- A caller may give a row this owner and this group: he is the superuser, or keeps the owner and gives one of his
-- groups.
pub record MayGive (w : World) (caller : Caller) (request : Request) (n : ℕ) (r : Row) (uid gid : ℕ) : Type 0 where
  pub allowed : MayRetitle w.rows caller n
  pub giving : (caller.uid ≡ 0) ⊎ ((uid ≡ r.file.uid) × (is_in_group caller gid ≡ true))
  pub asked : SetsOwner w n uid gid request

-- a row that has another owner or another group was given by whoever may
abbrev pub Given : Law
Given numbers w caller request answer after =
    (n : ℕ) (r s : Row) → map.get w.rows n ≡ Some r → map.get after.rows n ≡ Some s
    → (SameOwner r.file s.file → ⊥) → MayGive w caller request n r s.file.uid s.file.gid
