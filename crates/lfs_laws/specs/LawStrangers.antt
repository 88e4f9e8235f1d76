-- What a row is to strangers: owner, group, flags and mode stay, whatever they call.
use Rattle.std.specs.Prelude.{◌≡◌, ◌≢◌, ◌⊎◌, ℕ, List, [], ◌∷◌, Some, IsSomeAnd}
use Rattle.std.specs.FinMap as map
use Rattle.lfs_types.specs.Caller.{Caller}
use Rattle.lfs_types.specs.Tree.{Row, World}
use Rattle.lfs_model.specs.declared.journal.Entry.{Entry}
use Rattle.lfs_model.specs.declared.journal.Event.{Event}
use Rattle.lfs_model.specs.declared.journal.Event.TheVariants.{User, Cleaner}
use Rattle.lfs_model.specs.World.{IsTree}
use Rattle.lfs_model.specs.Steps.{IsLegal, world_after}
use Rattle.lfs_laws.specs.LawBetween.{IsDoneBy}
use Rattle.lfs_laws.specs.LawGone.{MayRemove}
use Rattle.lfs_laws.specs.LawOneThing.{KeepsMode}

-- a user's call is made by one who is neither user 0 nor the row's owner
abbrev pub IsNotOwner : Row → Caller → Event → Type 0
IsNotOwner r caller (User request answer) = (caller.uid ≢ 0) × (caller.uid ≢ r.file.uid)
IsNotOwner r caller (Cleaner act outcome) = Unit {0}

-- so is each
abbrev pub AreNotOwners : Row → List Entry → Type 0
AreNotOwners r [] = Unit {0}
AreNotOwners r (entry ∷ entries) = IsNotOwner r entry.cred entry.event × AreNotOwners r entries

-- a row has the kind, the owner, the group and the flags that it had and, but for set-id bits, the mode
pub record IsStillWhose (old new : Row) : Type 0 where
  pub kind : new.file.kind ≡ old.file.kind
  pub uid : new.file.uid ≡ old.file.uid
  pub gid : new.file.gid ≡ old.file.gid
  pub flags : new.file.flags ≡ old.file.flags
  pub mode : KeepsMode old.file.mode new.file.mode

-- through any calls of such users a row is whose it was, or one of them removed it, who might
abbrev pub StrangersLeave : Type 0
StrangersLeave =
    (numbers segments : ℕ) (entries : List Entry) (w : World) (n : ℕ) (r : Row)
    → IsTree w.rows
    → IsLegal numbers segments entries w
    → map.get w.rows n ≡ Some r
    → AreNotOwners r entries
    → IsSomeAnd (map.get (world_after numbers entries w).rows n) (IsStillWhose r)
    ⊎ IsDoneBy numbers entries w (λ v caller request after. IsSomeAnd (map.get v.rows n) (MayRemove v caller request n))
