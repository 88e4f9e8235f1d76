-- A denial tells the truth, and tells only of a row on the call's path that the caller may ask for: every row before it
-- is a directory that he may search.
use Rattle.std.specs.Prelude.{◌≡◌, ◌≢◌, ◌<◌, ◌≤◌, ◌||◌, ℕ, ◌+◌, true, false, List, [], ◌∷◌, ◌++◌, length, slice_get}
use Rattle.std.specs.Prelude.{Option, None, Some, IsSomeAnd}
use Rattle.std.specs.FinMap as map
use Rattle.lfs_types.specs.Caller.{Caller}
use Rattle.lfs_types.specs.Tree.{Row, World, root, attrs_of}
use Rattle.lfs_types.specs.declared.attrs.Bit.TheVariants as bits
use Rattle.lfs_types.specs.declared.attrs.Kind.TheVariants.{File as Regular, Directory}
use Rattle.lfs_types.specs.declared.level.Level.{Level}
use Rattle.lfs_types.specs.declared.request.Request.{Request}
use Rattle.lfs_types.specs.declared.request.Request.TheVariants.{Write, SetLength, Rename, Chown, Chflags, SetLevel}
use Rattle.lfs_types.specs.declared.rule.Denial.{Denial}
use Rattle.lfs_types.specs.declared.rule.Rule.{Rule}
use Rattle.lfs_types.specs.declared.rule.Rule.TheVariants.{IsDirectory, GrantsSearch, NameThere, NameFree}
use Rattle.lfs_types.specs.declared.rule.Rule.TheVariants.{IsNoDirectory, IsEmpty, IsNotRoot, IsNotBeneathItself}
use Rattle.lfs_types.specs.declared.rule.Rule.TheVariants.{IsMutable, IsNotAppendOnly, GrantsRead, GrantsWrite}
use Rattle.lfs_types.specs.declared.rule.Rule.TheVariants.{PassesSticky, IsOwner, MaySetOwner, IsSuperuser, MaySetFlags}
use Rattle.lfs_types.specs.declared.rule.Rule.TheVariants.{KeepsSystemLocks, MaySetLevel, FitsFile}
use Rattle.lfs_rules.specs.Bits.{has_bit}
use Rattle.lfs_rules.specs.Grants.{grants_of}
use Rattle.lfs_rules.specs.Locks.{is_immutable, is_append_only, changes_system_flags, clears_system_lock}
use Rattle.lfs_rules.specs.Locks.{has_system_lock}
use Rattle.lfs_rules.specs.Securelevel.{is_above_zero, is_lower}
use Rattle.lfs_model.specs.World.{Rows, child, children, IsTree}
use Rattle.lfs_model.specs.Rules.{attrs_at, decide, file_max, is_directory_row, row_grants, start_in}
use Rattle.lfs_laws.specs.Rights.{IsGivable, paths}

-- the row that a name leads to from a row, if both are there
abbrev pub child_of : Rows → Option ℕ → List ℕ → Option ℕ
child_of rows None name = None
child_of rows (Some at) name = child rows at name

-- the row that names lead to from a row, if each leads to one
abbrev pub led : Rows → Option ℕ → List (List ℕ) → Option ℕ
led rows o [] = o
led rows o (name ∷ names) = led rows (child_of rows o name) names

-- a directory that grants the caller search
abbrev pub MayEnter : Rows → Caller → Option ℕ → Type 0
MayEnter rows caller None = ⊥
MayEnter rows caller (Some n) =
    (is_directory_row (map.get rows n) ≡ true) × (row_grants caller bits.Search (map.get rows n) ≡ true)

-- each row that names lead through from a row, but the last, is a directory that grants the caller search
abbrev pub MayPass : Rows → Caller → Option ℕ → List (List ℕ) → Type 0
MayPass rows caller o [] = Unit {0}
MayPass rows caller o (name ∷ names) = MayEnter rows caller o × MayPass rows caller (child_of rows o name) names

-- this row is the one that the call is to move
abbrev pub IsMoved : World → Request → ℕ → Type 0
IsMoved w (Rename from to) n = led w.rows (Some root) from ≡ Some n
IsMoved w request n = ⊥

-- the call is to give a row an owner and a group that the caller, if he is its owner, may not give it
abbrev pub IsGivenWrongly : Caller → Request → Row → Type 0
IsGivenWrongly caller (Chown path uid gid) r = caller.uid ≡ r.file.uid → IsGivable caller r.file uid gid → ⊥
IsGivenWrongly caller request r = ⊥

-- the call is to change system flags of a row, or flags beside a system lock
abbrev pub TouchesSystemFlags : Request → Row → Type 0
TouchesSystemFlags (Chflags path flags) r = (changes_system_flags r.file.flags flags || has_system_lock r.file.flags)
    ≡ true
TouchesSystemFlags request r = ⊥

-- the call is to turn off a system lock of a row
abbrev pub TurnsOffLock : Request → Row → Type 0
TurnsOffLock (Chflags path flags) r = clears_system_lock r.file.flags flags ≡ true
TurnsOffLock request r = ⊥

-- the call is to make a file longer than a file may be, or to write past that
abbrev pub IsTooLong : Request → Row → Type 0
IsTooLong (Write path place bytes) r = file_max < start_in place (length r.file.bytes) + length bytes
IsTooLong (SetLength path len) r = file_max < len
IsTooLong request r = ⊥

-- the row's parent is sticky, and the caller is neither the superuser nor the owner of one of the two
pub record IsKept (w : World) (caller : Caller) (r : Row) : Type 0 where
  pub sticky : has_bit (attrs_at w.rows r.parent).mode 0o1000 ≡ true
  pub ordinary : caller.uid ≢ 0
  pub row : caller.uid ≢ r.file.uid
  pub parent : caller.uid ≢ (attrs_at w.rows r.parent).uid

-- what a denial of a call by a rule says of the row at its component, before these names of the path that are left: the
-- rule is broken there. A rule about the object of the call speaks of the row at the path's end; flags and write may be
-- its parent's.
abbrev pub Says : World → Caller → Request → Rule → List (List ℕ) → ℕ → Row → Type 0
Says w caller request IsDirectory behind n r = r.file.kind ≡ Regular
Says w caller request GrantsSearch behind n r = (r.file.kind ≡ Directory)
    × (grants_of caller (attrs_of r.file) bits.Search ≡ false)
Says w caller request NameThere behind n r = ⊥
Says w caller request NameFree behind n r = behind ≡ []
Says w caller request IsNoDirectory behind n r = (behind ≡ []) × (r.file.kind ≡ Directory)
Says w caller request IsEmpty behind n r = (behind ≡ []) × (r.file.kind ≡ Directory) × (children w.rows n ≢ [])
Says w caller request IsNotRoot behind n r = (behind ≡ []) × (n ≡ root)
Says w caller request IsNotBeneathItself behind n r = (behind ≢ []) × IsMoved w request n
Says w caller request IsMutable behind n r = (length behind ≤ 1) × (is_immutable (attrs_of r.file) ≡ true)
Says w caller request IsNotAppendOnly behind n r = (length behind ≤ 1) × (is_append_only (attrs_of r.file) ≡ true)
Says w caller request GrantsRead behind n r = (behind ≡ []) × (grants_of caller (attrs_of r.file) bits.Read ≡ false)
Says w caller request GrantsWrite behind n r = (length behind ≤ 1)
    × (grants_of caller (attrs_of r.file) bits.Write ≡ false)
Says w caller request PassesSticky behind n r = (behind ≡ []) × IsKept w caller r
Says w caller request IsOwner behind n r = (behind ≡ []) × (caller.uid ≢ 0) × (caller.uid ≢ r.file.uid)
Says w caller request MaySetOwner behind n r = (behind ≡ []) × (caller.uid ≢ 0) × IsGivenWrongly caller request r
Says w caller request MaySetFlags behind n r = (behind ≡ []) × (caller.uid ≢ 0) × TouchesSystemFlags request r
Says w caller request KeepsSystemLocks behind n r = (behind ≡ []) × (is_above_zero w.level ≡ true)
    × TurnsOffLock request r
Says w caller request FitsFile behind n r = (behind ≡ []) × IsTooLong request r
Says w caller request IsSuperuser behind n r = ⊥
Says w caller request MaySetLevel behind n r = ⊥

-- a denial by this rule says that a row isn't there
abbrev pub IsOfNone : Rule → Type 0
IsOfNone NameThere = Unit {0}
IsOfNone rule = ⊥

-- what a denial says of the row at its component, or of there being none
abbrev pub SaysAt : World → Caller → Request → Rule → List (List ℕ) → Option ℕ → Type 0
SaysAt w caller request rule behind None = IsOfNone rule
SaysAt w caller request rule behind (Some n) = IsSomeAnd (map.get w.rows n) (Says w caller request rule behind n)

-- A denial by a rule at a component of a path: the caller may pass the names before it, and the rule is broken by the
-- row there.
pub record Tells (w : World) (caller : Caller) (request : Request) (path : List (List ℕ)) (rule : Rule) (at : ℕ)
    : Type 0 where
  pub front : List (List ℕ)
  pub behind : List (List ℕ)
  pub split : front ++ behind ≡ path
  pub counted : length front ≡ at
  pub passes : MayPass w.rows caller (Some root) front
  pub says : SaysAt w caller request rule behind (led w.rows (Some root) front)

-- what a denial of a SetLevel says, which has no path: the caller isn't the superuser, or not init where the level
-- would fall
abbrev pub SaysOfLevel : World → Caller → Level → Rule → Type 0
SaysOfLevel w caller level IsSuperuser = caller.uid ≢ 0
SaysOfLevel w caller level MaySetLevel = (is_lower level w.level ≡ true) × (caller.init ≡ false)
SaysOfLevel w caller level rule = ⊥

-- what a denial of a call tells: of the path whose index it names
abbrev pub Told : World → Caller → Request → Denial → Type 0
Told w caller (SetLevel level) denial =
    (denial.path ≡ 0) × (denial.at ≡ 0) × SaysOfLevel w caller level denial.rule
Told w caller request denial =
    IsSomeAnd (slice_get (paths request) denial.path) (λ path. Tells w caller request path denial.rule denial.at)

-- each denial is true, and tells only so much
abbrev pub TellsLittle : Type 0
TellsLittle =
    (w : World) (caller : Caller) (request : Request) (denial : Denial)
    → IsTree w.rows
    → decide w caller request ≡ Some denial
    → Told w caller request denial
