-- A denial names a rule that its call asks, of an object of which the call asks it.
use Rattle.std.specs.Prelude.{◌≡◌, ◌⊎◌, ◌<◌, ◌≤◌, ℕ, ◌+◌, List, length, Some}
use Rattle.lfs_types.specs.Caller.{Caller}
use Rattle.lfs_types.specs.Tree.{World}
use Rattle.lfs_types.specs.declared.request.Place.TheVariants.{At}
use Rattle.lfs_types.specs.declared.request.Request.{Request}
use Rattle.lfs_types.specs.declared.request.Request.TheVariants.{Stat, Read, Write, List as Names, SetLength, Create}
use Rattle.lfs_types.specs.declared.request.Request.TheVariants.{Mkdir, Unlink, Rmdir, Rename, Chmod, Chown, Chflags}
use Rattle.lfs_types.specs.declared.request.Request.TheVariants.{SetLevel, Sync}
use Rattle.lfs_types.specs.declared.rule.Denial.{Denial}
use Rattle.lfs_types.specs.declared.rule.Rule.{Rule}
use Rattle.lfs_types.specs.declared.rule.Rule.TheVariants.{IsDirectory, GrantsSearch, NameThere, NameFree}
use Rattle.lfs_types.specs.declared.rule.Rule.TheVariants.{IsNoDirectory, IsEmpty, IsNotRoot, IsNotBeneathItself}
use Rattle.lfs_types.specs.declared.rule.Rule.TheVariants.{IsMutable, IsNotAppendOnly, GrantsRead, GrantsWrite}
use Rattle.lfs_types.specs.declared.rule.Rule.TheVariants.{PassesSticky, IsOwner, MaySetOwner, IsSuperuser, MaySetFlags}
use Rattle.lfs_types.specs.declared.rule.Rule.TheVariants.{KeepsSystemLocks, MaySetLevel, FitsFile}
use Rattle.lfs_model.specs.Rules.{decide}

-- asked on the way to what a path names: N1 and S1 at each component before the last, N2 at each but the first
abbrev pub OnWalk : List (List ℕ) → Rule → ℕ → Type 0
OnWalk path IsDirectory at = at < length path
OnWalk path GrantsSearch at = at < length path
OnWalk path NameThere at = (0 < at) × (at ≤ length path)
OnWalk path rule at = ⊥

-- asked on the way to a place for a name: the same, but not N2 of the last name
abbrev pub OnWay : List (List ℕ) → Rule → ℕ → Type 0
OnWay path IsDirectory at = at < length path
OnWay path GrantsSearch at = at < length path
OnWay path NameThere at = (0 < at) × (at < length path)
OnWay path rule at = ⊥

-- asked on the way to a moved row's new place: K4 besides
abbrev pub OnNewWay : List (List ℕ) → Rule → ℕ → Type 0
OnNewWay path IsNotBeneathItself at = at < length path
OnNewWay path rule at = OnWay path rule at

-- asked of the directory in which a name comes or goes: F1 and M2
abbrev pub OfMaker : Rule → Type 0
OfMaker IsMutable = Unit {0}
OfMaker GrantsWrite = Unit {0}
OfMaker rule = ⊥

-- where one may go, also F2
abbrev pub OfTaker : Rule → Type 0
OfTaker IsNotAppendOnly = Unit {0}
OfTaker rule = OfMaker rule

-- asked of nothing
abbrev pub OfNone : Rule → Type 0
OfNone rule = ⊥

-- asked of what is taken away: K3, Y1, F1 and F2
abbrev pub OfTaken : Rule → Type 0
OfTaken IsNotRoot = Unit {0}
OfTaken PassesSticky = Unit {0}
OfTaken IsMutable = Unit {0}
OfTaken IsNotAppendOnly = Unit {0}
OfTaken rule = ⊥

-- of what is moved, also M2
abbrev pub OfMoved : Rule → Type 0
OfMoved GrantsWrite = Unit {0}
OfMoved rule = OfTaken rule

-- of what is replaced, also its kind, and that it is empty
abbrev pub OfReplaced : Rule → Type 0
OfReplaced IsNoDirectory = Unit {0}
OfReplaced IsDirectory = Unit {0}
OfReplaced IsEmpty = Unit {0}
OfReplaced rule = OfTaken rule

-- asked of what the only path of a call names
abbrev pub OfNamed : Request → Rule → Type 0
OfNamed (Read path off len) IsNoDirectory = Unit {0}
OfNamed (Read path off len) GrantsRead = Unit {0}
OfNamed (Names path) IsDirectory = Unit {0}
OfNamed (Names path) GrantsRead = Unit {0}
OfNamed (Write path place bytes) IsNoDirectory = Unit {0}
OfNamed (Write path place bytes) IsMutable = Unit {0}
OfNamed (Write path place bytes) GrantsWrite = Unit {0}
OfNamed (Write path (At start) bytes) IsNotAppendOnly = Unit {0}
OfNamed (Write path place bytes) FitsFile = Unit {0}
OfNamed (SetLength path len) IsNoDirectory = Unit {0}
OfNamed (SetLength path len) IsMutable = Unit {0}
OfNamed (SetLength path len) GrantsWrite = Unit {0}
OfNamed (SetLength path len) IsNotAppendOnly = Unit {0}
OfNamed (SetLength path len) FitsFile = Unit {0}
OfNamed (Create path mode) NameFree = Unit {0}
OfNamed (Mkdir path mode) NameFree = Unit {0}
OfNamed (Unlink path) IsNoDirectory = Unit {0}
OfNamed (Unlink path) rule = OfTaken rule
OfNamed (Rmdir path) IsDirectory = Unit {0}
OfNamed (Rmdir path) IsEmpty = Unit {0}
OfNamed (Rmdir path) rule = OfTaken rule
OfNamed (Chmod path mode) IsMutable = Unit {0}
OfNamed (Chmod path mode) IsNotAppendOnly = Unit {0}
OfNamed (Chmod path mode) IsOwner = Unit {0}
OfNamed (Chown path uid gid) IsMutable = Unit {0}
OfNamed (Chown path uid gid) IsNotAppendOnly = Unit {0}
OfNamed (Chown path uid gid) MaySetOwner = Unit {0}
OfNamed (Chflags path flags) IsOwner = Unit {0}
OfNamed (Chflags path flags) MaySetFlags = Unit {0}
OfNamed (Chflags path flags) KeepsSystemLocks = Unit {0}
OfNamed request rule = ⊥

-- asked of no object: U1 and L3
abbrev pub OfCaller : Rule → Type 0
OfCaller IsSuperuser = Unit {0}
OfCaller MaySetLevel = Unit {0}
OfCaller rule = ⊥

-- a rule is asked along the path of this index: on the way, of the directory of its last name, or at its end
abbrev pub IsAskedAlong : ℕ → List (List ℕ) → (List (List ℕ) → Rule → ℕ → Type 0) → (Rule → Type 0) → (Rule → Type 0)
    → Denial → Type 0
IsAskedAlong index path Way OfParent OfEnd denial =
    (denial.path ≡ index)
    × (Way path denial.rule denial.at
    ⊎ ((denial.at + 1 ≡ length path) × OfParent denial.rule)
    ⊎ ((denial.at ≡ length path) × OfEnd denial.rule))

-- the call asks the rule that a denial names, of the object that it names
abbrev pub IsAsked : Request → Denial → Type 0
IsAsked (Stat path) denial = IsAskedAlong 0 path OnWalk OfNone OfNone denial
IsAsked (Create path mode) denial = IsAskedAlong 0 path OnWay OfMaker (OfNamed (Create path mode)) denial
IsAsked (Mkdir path mode) denial = IsAskedAlong 0 path OnWay OfMaker (OfNamed (Mkdir path mode)) denial
IsAsked (Unlink path) denial = IsAskedAlong 0 path OnWalk OfTaker (OfNamed (Unlink path)) denial
IsAsked (Rmdir path) denial = IsAskedAlong 0 path OnWalk OfTaker (OfNamed (Rmdir path)) denial
IsAsked (Rename from to) denial =
    IsAskedAlong 0 from OnWalk OfTaker OfMoved denial
    ⊎ IsAskedAlong 1 to OnNewWay OfTaker OfReplaced denial
IsAsked (Read path off len) denial = IsAskedAlong 0 path OnWalk OfNone (OfNamed (Read path off len)) denial
IsAsked (Names path) denial = IsAskedAlong 0 path OnWalk OfNone (OfNamed (Names path)) denial
IsAsked (Write path place bytes) denial = IsAskedAlong 0 path OnWalk OfNone (OfNamed (Write path place bytes)) denial
IsAsked (SetLength path len) denial = IsAskedAlong 0 path OnWalk OfNone (OfNamed (SetLength path len)) denial
IsAsked (Chmod path mode) denial = IsAskedAlong 0 path OnWalk OfNone (OfNamed (Chmod path mode)) denial
IsAsked (Chown path uid gid) denial = IsAskedAlong 0 path OnWalk OfNone (OfNamed (Chown path uid gid)) denial
IsAsked (Chflags path flags) denial = IsAskedAlong 0 path OnWalk OfNone (OfNamed (Chflags path flags)) denial
IsAsked (SetLevel level) denial = (denial.path ≡ 0) × (denial.at ≡ 0) × OfCaller denial.rule
IsAsked Sync denial = ⊥

-- so each denial
abbrev pub NamesWhatItAsks : Type 0
NamesWhatItAsks =
    (w : World) (caller : Caller) (request : Request) (denial : Denial)
    → decide w caller request ≡ Some denial → IsAsked request denial
