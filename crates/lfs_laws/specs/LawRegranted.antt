-- Who gave a right on a row, or took it, between two points of a run.
use Rattle.std.specs.Prelude.{◌≡◌, ◌⊎◌, ℕ}
use Rattle.lfs_types.specs.Caller.{Caller}
use Rattle.lfs_types.specs.Tree.{Row, World, attrs_of}
use Rattle.lfs_types.specs.declared.attrs.Bit.{Bit}
use Rattle.lfs_types.specs.declared.request.Request.{Request}
use Rattle.lfs_rules.specs.Grants.{grants_of}
use Rattle.lfs_laws.specs.LawBetween.{Between}
use Rattle.lfs_laws.specs.LawMode.{IsChmod}
use Rattle.lfs_laws.specs.LawOwner.{MayGive}

-- a row grants a user what another granted
abbrev pub GrantsAlike : Caller → Bit → Row → Row → Type 0
GrantsAlike other bit old new = grants_of other (attrs_of new.file) bit ≡ grants_of other (attrs_of old.file) bit

-- a call may change what a row grants: a Chmod of whoever may retitle it, or a Chown of whoever may give it
abbrev pub MayRegrant : ℕ → World → Caller → Request → Row → Row → Type 0
MayRegrant n w caller request row new =
    IsChmod w caller request n row new ⊎ MayGive w caller request n row new.file.uid new.file.gid

-- whoever the user, and whatever the right
abbrev pub RightBetween : Type 0
RightBetween = (other : Caller) (bit : Bit) → Between (λ old new. GrantsAlike other bit old new → ⊥) MayRegrant
