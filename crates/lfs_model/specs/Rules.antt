-- The rules that a call must pass, in order, and the first that fails.
use Rattle.std.specs.Prelude.{◌≡◌, ℕ, ◌+◌, ◌==◌, nat_le, not, ◌||◌, Bool, true, false, List, [], ◌∷◌, ◌++◌, length}
use Rattle.std.specs.Prelude.{Option, None, Some, Result, Ok, Err, is_some, is_none, unwrap_or, if◌then◌else◌}
use Rattle.std.specs.FinMap as map
use Rattle.std.specs.List.{list_any}
use Rattle.lfs_types.specs.Caller.{Caller}
use Rattle.lfs_types.specs.Kinds.{is_directory_kind}
use Rattle.lfs_types.specs.Tree.{Row, World, root, attrs_of}
use Rattle.lfs_types.specs.declared.attrs.Attrs.{Attrs}
use Rattle.lfs_types.specs.declared.attrs.Bit.{Bit}
use Rattle.lfs_types.specs.declared.attrs.Bit.TheVariants as bits
use Rattle.lfs_types.specs.declared.level.Level.{Level}
use Rattle.lfs_types.specs.declared.limits.TheConstants.{FILE_BYTES}
use Rattle.lfs_types.specs.declared.request.Place.{Place}
use Rattle.lfs_types.specs.declared.request.Place.TheVariants.{At, End}
use Rattle.lfs_types.specs.declared.request.Request.{Request}
use Rattle.lfs_types.specs.declared.request.Request.TheVariants.{Stat, Read, Write, List as Names, SetLength, Create}
use Rattle.lfs_types.specs.declared.request.Request.TheVariants.{Mkdir, Unlink, Rmdir, Rename, Chmod, Chown, Chflags}
use Rattle.lfs_types.specs.declared.request.Request.TheVariants.{SetLevel, Sync}
use Rattle.lfs_types.specs.declared.rule.Denial.{Denial}
use Rattle.lfs_types.specs.declared.rule.Rule.{Rule}
use Rattle.lfs_types.specs.declared.rule.Rule.TheVariants.{IsDirectory, GrantsSearch, NameThere, NameFree}
use Rattle.lfs_types.specs.declared.rule.Rule.TheVariants.{IsNoDirectory, IsEmpty, IsNotRoot, IsNotBeneathItself}
use Rattle.lfs_types.specs.declared.rule.Rule.TheVariants.{IsMutable, IsNotAppendOnly, GrantsRead, GrantsWrite}
use Rattle.lfs_types.specs.declared.rule.Rule.TheVariants.{PassesSticky, IsOwner, MaySetOwner, IsSuperuser, MaySetFlags}
use Rattle.lfs_types.specs.declared.rule.Rule.TheVariants.{KeepsSystemLocks, MaySetLevel, FitsFile}
use Rattle.lfs_rules.specs.Grants.{grants_of}
use Rattle.lfs_rules.specs.Locks.{is_immutable, is_append_only, may_set_flags, keeps_system_locks}
use Rattle.lfs_rules.specs.Owners.{is_the_superuser, is_owner_or_superuser, may_set_owner}
use Rattle.lfs_rules.specs.Securelevel.{may_set_level}
use Rattle.lfs_rules.specs.Sticky.{is_barred}
use Rattle.lfs_model.specs.World.{Rows, child, children, file_at}

-- a test of a call: whether it is met, and the denial where it isn't
pub record Check : Type 0 where
  pub met : Bool
  pub denial : Denial

-- what asking tests in order comes to
abbrev pub judged : List Check → Result (Unit {0}) Denial
judged [] = Ok tt
judged (check ∷ checks) = if check.met then judged checks else Err check.denial

-- the denial by the first test that isn't met
abbrev pub first_failing : List Check → Option Denial
first_failing [] = None
first_failing (check ∷ checks) = if check.met then first_failing checks else Some check.denial

-- a rule is asked of the object at a component of a path
abbrev pub asks : Bool → Rule → ℕ → ℕ → Check
asks met rule path at = record { met = met; denial = record { rule = rule; path = path; at = at } }

abbrev pub is_directory_row : Option Row → Bool
is_directory_row None = false
is_directory_row (Some r) = is_directory_kind r.file.kind

abbrev pub row_grants : Caller → Bit → Option Row → Bool
row_grants caller bit None = false
row_grants caller bit (Some r) = grants_of caller (attrs_of r.file) bit

-- the attributes of a row
abbrev pub attrs_at : Rows → ℕ → Attrs
attrs_at rows n = attrs_of (file_at (map.get rows n))

-- the row that a name leads to from a row, and 0 where it leads nowhere
abbrev pub next : Rows → ℕ → List ℕ → ℕ
next rows at name = unwrap_or (child rows at name) 0

-- the row that names lead to from a row
abbrev pub reached : Rows → ℕ → List (List ℕ) → ℕ
reached rows at [] = at
reached rows at (name ∷ names) = reached rows (next rows at name) names

-- the names before the last
abbrev pub front : List (List ℕ) → List (List ℕ)
front [] = []
front (name ∷ []) = []
front (name ∷ second ∷ names) = name ∷ front (second ∷ names)

-- the last name
abbrev pub last : List (List ℕ) → List ℕ
last [] = []
last (name ∷ []) = name
last (name ∷ second ∷ names) = last (second ∷ names)

-- The tests of a walk: at each component the directory so far, search in it, and the name. Each page of a call with a
-- path says so: ENOTDIR where what leads on is no directory, EACCES where it may not be searched, ENOENT where there is
-- no such name.
abbrev pub walk : Rows → Caller → ℕ → ℕ → ℕ → List (List ℕ) → List Check
walk rows caller path k at [] = []
walk rows caller path k at (name ∷ names) =
    asks (is_directory_row (map.get rows at)) IsDirectory path k
    ∷ asks (row_grants caller bits.Search (map.get rows at)) GrantsSearch path k
    ∷ asks (is_some (child rows at name)) NameThere path (k + 1)
    ∷ walk rows caller path (k + 1) (next rows at name) names

-- where a Write's bytes go in a file of this many bytes
abbrev pub start_in : Place → ℕ → ℕ
start_in (At start) size = start
start_in End size = size

-- the most bytes of a file
abbrev pub file_max : ℕ
file_max = FILE_BYTES

-- whether a place is the end
abbrev pub is_end : Place → Bool
is_end (At start) = false
is_end End = true

-- the rows that names lead through from a row, the first and the last among them
abbrev pub visited : Rows → ℕ → List (List ℕ) → List ℕ
visited rows at [] = at ∷ []
visited rows at (name ∷ names) = at ∷ visited rows (next rows at name) names

-- where a number first stands in a list, and the list's length where it doesn't
abbrev pub position : ℕ → List ℕ → ℕ
position n [] = 0
position n (m ∷ ms) = if m == n then 0 else 1 + position n ms

-- the tests of a directory in which a name is looked for, at component k of the path of this index
abbrev pub searching_tests : Caller → ℕ → Attrs → ℕ → List Check
searching_tests caller path dir k =
    asks (is_directory_kind dir.kind) IsDirectory path k
    ∷ asks (grants_of caller dir bits.Search) GrantsSearch path k
    ∷ []

-- open(2), mkdir(2), rename(2): a name is made in a directory that may be written. chflags(2): nothing changes in an
-- immutable one. So: the tests of a directory that gets a free name, at component k of the path of this index
abbrev pub entering_tests : Caller → ℕ → Attrs → ℕ → List Check
entering_tests caller path dir k =
    asks (not (is_immutable dir)) IsMutable path k
    ∷ asks (grants_of caller dir bits.Write) GrantsWrite path k
    ∷ []

-- open(2) with O_CREAT and O_EXCL, mkdir(2): EEXIST where the name is there, EACCES where the directory may not be
-- written. So: the tests of the directory, at component k of the path, that gets a new row; its name may be free in it
abbrev pub making_tests : Caller → Bool → Attrs → ℕ → List Check
making_tests caller free dir k =
    asks (is_directory_kind dir.kind) IsDirectory 0 k
    ∷ asks (grants_of caller dir bits.Search) GrantsSearch 0 k
    ∷ asks free NameFree 0 (k + 1)
    ∷ asks (not (is_immutable dir)) IsMutable 0 k
    ∷ asks (grants_of caller dir bits.Write) GrantsWrite 0 k
    ∷ []

-- the tests of a call that makes a row
abbrev pub making : Rows → Caller → List (List ℕ) → List Check
making rows caller names =
    let parents = front names in
    let dir = reached rows root parents in
    let free = is_none (child rows dir (last names)) in
    asks (not (length names == 0)) NameFree 0 0
    ∷ walk rows caller 0 0 root parents ++ making_tests caller free (attrs_at rows dir) (length parents)

-- unlink(2), rmdir(2), rename(2): a name is taken from a directory that may be written. sticky(8): in a sticky one by
-- the owner of it or of what is named, or by user 0. chflags(2): what is immutable or append-only keeps its name, and
-- such a directory its names. So: the tests of a directory, at component k of the path of this index, and of what hangs
-- in it, whose name is to be taken away
abbrev pub removing_tests : Caller → ℕ → Attrs → Attrs → ℕ → List Check
removing_tests caller path dir file k =
    asks (not (is_immutable dir)) IsMutable path k
    ∷ asks (grants_of caller dir bits.Write) GrantsWrite path k
    ∷ asks (not (is_append_only dir)) IsNotAppendOnly path k
    ∷ asks (not (is_barred caller dir file)) PassesSticky path (k + 1)
    ∷ asks (not (is_immutable file)) IsMutable path (k + 1)
    ∷ asks (not (is_append_only file)) IsNotAppendOnly path (k + 1)
    ∷ []

-- the tests of a call that takes away a name, up to those that a file and a directory differ in
abbrev pub removing : Rows → Caller → List (List ℕ) → List Check
removing rows caller names =
    let dir = attrs_at rows (reached rows root (front names)) in
    let file = attrs_at rows (reached rows root names) in
    asks (not (length names == 0)) IsNotRoot 0 0
    ∷ walk rows caller 0 0 root names ++ removing_tests caller 0 dir file (length (front names))

-- unlink(2) of 4.4BSD: EPERM for a directory, unless the caller is user 0. In this profile nobody unlinks a directory,
-- user 0 neither. So: the test of what an Unlink removes
abbrev pub unlink_tests : Attrs → ℕ → List Check
unlink_tests file k = asks (not (is_directory_kind file.kind)) IsNoDirectory 0 k ∷ []

-- rmdir(2): ENOTDIR for a file, ENOTEMPTY where it has names besides its own and its parent's. So: the tests of what a
-- Rmdir removes, which may be empty
abbrev pub rmdir_tests : Bool → Attrs → ℕ → List Check
rmdir_tests empty dir k =
    asks (is_directory_kind dir.kind) IsDirectory 0 k
    ∷ asks empty IsEmpty 0 k
    ∷ []

-- rename(2): EINVAL where a directory would come beneath itself. So: the test of a row and of the rows on the way to its
-- new place
abbrev pub apart_test : Rows → ℕ → List (List ℕ) → Check
apart_test rows moved names =
    let way = visited rows root (front names) in
    asks (not (list_any (λ n. n == moved) way)) IsNotBeneathItself 1 (position moved way)

-- rename(2): EACCES where a directory that gets another parent may not be written, as its '..' is. So: the test of what
-- is moved, which may stay in its directory
abbrev pub leaves_test : Caller → Bool → Attrs → ℕ → Check
leaves_test caller stays file k =
    asks (not (is_directory_kind file.kind) || stays || grants_of caller file bits.Write) GrantsWrite 0 k

-- ---- a row that gets another place

-- whether a name leads to the row of this number
abbrev pub is_there : ℕ → Option ℕ → Bool
is_there n None = false
is_there n (Some m) = m == n

-- rename(2): EISDIR where a file would replace a directory, ENOTDIR the other way, ENOTEMPTY where that directory has
-- names. So: the tests of a row, at component k of the second path, that is to be replaced by a moved one: a file by a
-- file, a directory, which may be empty, by a directory
abbrev pub replaced_tests : Bool → Attrs → Attrs → ℕ → List Check
replaced_tests empty moved there k =
    asks (not (is_directory_kind there.kind) || is_directory_kind moved.kind) IsNoDirectory 1 k
    ∷ asks (is_directory_kind there.kind || not (is_directory_kind moved.kind)) IsDirectory 1 k
    ∷ asks empty IsEmpty 1 k
    ∷ []

-- the tests of the directory, at component k of the second path, in which a moved row gets a name that leads here
abbrev pub placing_tests : Rows → Caller → ℕ → ℕ → Option ℕ → ℕ → List Check
placing_tests rows caller moved dir None k = entering_tests caller 1 (attrs_at rows dir) k
placing_tests rows caller moved dir (Some m) k =
    removing_tests caller 1 (attrs_at rows dir) (attrs_at rows m) k
    ++ replaced_tests (length (children rows m) == 0) (attrs_at rows moved) (attrs_at rows m) (k + 1)

-- the last tests of a Rename: of the way to the new place, and of what is moved
abbrev pub last_tests : Rows → Caller → List (List ℕ) → List (List ℕ) → List Check
last_tests rows caller from to =
    let moved = reached rows root from in
    let stays = reached rows root (front from) == reached rows root (front to) in
    apart_test rows moved to
    ∷ leaves_test caller stays (attrs_at rows moved) (length from)
    ∷ []

-- the tests of a row that gets a place to which a name leads here: none where it has that place already
abbrev pub moving_tests : Rows → Caller → List (List ℕ) → List (List ℕ) → Option ℕ → List Check
moving_tests rows caller from to there =
    let moved = reached rows root from in
    if is_there moved there then [] else
    placing_tests rows caller moved (reached rows root (front to)) there (length (front to))
    ++ last_tests rows caller from to

-- the tests of the way to a place, up to whether a name may be looked for there
abbrev pub arriving : Rows → Caller → List (List ℕ) → List Check
arriving rows caller names =
    let parents = front names in
    asks (not (length names == 0)) IsNotRoot 1 0
    ∷ walk rows caller 1 0 root parents ++ searching_tests caller 1 (attrs_at rows (reached rows root parents))
    (length parents)

-- the tests of what a path leads to: the walk, and tests of its attributes at the last component
abbrev pub reaching : Rows → Caller → List (List ℕ) → (Attrs → ℕ → List Check) → List Check
reaching rows caller path tests = walk rows caller 0 0 root path
    ++ tests (attrs_at rows (reached rows root path)) (length path)

-- stat(2): no permission is asked of the file itself. So: no tests behind a walk
abbrev pub stat_tests : Attrs → ℕ → List Check
stat_tests attrs k = []

-- read(2): EISDIR for a directory; open(2): EACCES where the file may not be read. So: the tests of reading its bytes
abbrev pub read_tests : Caller → Attrs → ℕ → List Check
read_tests caller attrs k =
    asks (not (is_directory_kind attrs.kind)) IsNoDirectory 0 k
    ∷ asks (grants_of caller attrs bits.Read) GrantsRead 0 k
    ∷ []

-- getdirentries(2): of a directory that may be read. So: the tests of listing it
abbrev pub list_tests : Caller → Attrs → ℕ → List Check
list_tests caller attrs k =
    asks (is_directory_kind attrs.kind) IsDirectory 0 k
    ∷ asks (grants_of caller attrs bits.Read) GrantsRead 0 k
    ∷ []

-- write(2), truncate(2): EISDIR for a directory, EACCES where the file may not be written. chflags(2): an immutable file
-- isn't changed, an append-only one only grows at its end. So: the tests of a call that changes a file's bytes or its
-- length, up to the length; some only add bytes at the end
abbrev pub change_tests : Caller → Bool → Attrs → ℕ → List Check
change_tests caller appends attrs k =
    asks (not (is_directory_kind attrs.kind)) IsNoDirectory 0 k
    ∷ asks (not (is_immutable attrs)) IsMutable 0 k
    ∷ asks (grants_of caller attrs bits.Write) GrantsWrite 0 k
    ∷ asks (appends || not (is_append_only attrs)) IsNotAppendOnly 0 k
    ∷ []

-- write(2): EFBIG past the greatest size of a file. So: the tests of putting so many bytes at a place
abbrev pub write_tests : Caller → Place → ℕ → Attrs → ℕ → List Check
write_tests caller place count attrs k =
    change_tests caller (is_end place) attrs k ++
    (asks (nat_le (start_in place attrs.size + count) file_max) FitsFile 0 k
    ∷ [])

-- truncate(2): the same. So: the tests of giving a file this length
abbrev pub length_tests : Caller → ℕ → Attrs → ℕ → List Check
length_tests caller len attrs k =
    change_tests caller false attrs k ++
    (asks (nat_le len file_max) FitsFile 0 k
    ∷ [])

-- chmod(2): EPERM for who is neither the owner nor user 0. chflags(2): not of what is immutable or append-only. So: the
-- tests of setting a mode
abbrev pub chmod_tests : Caller → Attrs → ℕ → List Check
chmod_tests caller attrs k =
    asks (not (is_immutable attrs)) IsMutable 0 k
    ∷ asks (not (is_append_only attrs)) IsNotAppendOnly 0 k
    ∷ asks (is_owner_or_superuser caller attrs) IsOwner 0 k
    ∷ []

-- chown(2): user 0 gives a file away, its owner gives it a group that he is in, others EPERM. chflags(2): as of a mode.
-- So: the tests of giving a file this owner and this group
abbrev pub chown_tests : Caller → ℕ → ℕ → Attrs → ℕ → List Check
chown_tests caller uid gid attrs k =
    asks (not (is_immutable attrs)) IsMutable 0 k
    ∷ asks (not (is_append_only attrs)) IsNotAppendOnly 0 k
    ∷ asks (may_set_owner caller attrs uid gid) MaySetOwner 0 k
    ∷ []

-- chflags(2): the owner sets the user's flags, user 0 all; above level 0 nobody takes a system lock off. So: the tests of
-- setting these flags at this securelevel
abbrev pub chflags_tests : Caller → Level → ℕ → Attrs → ℕ → List Check
chflags_tests caller level flags attrs k =
    asks (is_owner_or_superuser caller attrs) IsOwner 0 k
    ∷ asks (may_set_flags caller attrs.flags flags) MaySetFlags 0 k
    ∷ asks (keeps_system_locks level attrs.flags flags) KeepsSystemLocks 0 k
    ∷ []

-- init(8): user 0 raises the securelevel, init alone lowers it. So: the tests of setting it
abbrev pub level_tests : Caller → Level → Level → List Check
level_tests caller old new =
    asks (is_the_superuser caller) IsSuperuser 0 0
    ∷ asks (may_set_level caller old new) MaySetLevel 0 0
    ∷ []

-- the tests of each call, in order
abbrev pub rule_table : World → Caller → Request → List Check
rule_table w caller (Stat path) = reaching w.rows caller path stat_tests
rule_table w caller (Read path off len) = reaching w.rows caller path (read_tests caller)
rule_table w caller (Names path) = reaching w.rows caller path (list_tests caller)
rule_table w caller (Write path place bytes) = reaching w.rows caller path (write_tests caller place (length bytes))
rule_table w caller (SetLength path len) = reaching w.rows caller path (length_tests caller len)
rule_table w caller (Create path mode) = making w.rows caller path
rule_table w caller (Mkdir path mode) = making w.rows caller path
rule_table w caller (Unlink path) =
    removing w.rows caller path ++ unlink_tests (attrs_at w.rows (reached w.rows root path)) (length path)
rule_table w caller (Rmdir path) =
    let dir = reached w.rows root path in
    removing w.rows caller path ++ rmdir_tests (length (children w.rows dir) == 0) (attrs_at w.rows dir) (length path)
rule_table w caller (Rename from to) =
    removing w.rows caller from ++ (arriving w.rows caller to ++
    moving_tests w.rows caller from to (child w.rows (reached w.rows root (front to)) (last to)))
rule_table w caller (Chmod path mode) = reaching w.rows caller path (chmod_tests caller)
rule_table w caller (Chown path uid gid) = reaching w.rows caller path (chown_tests caller uid gid)
rule_table w caller (Chflags path flags) = reaching w.rows caller path (chflags_tests caller w.level flags)
rule_table w caller (SetLevel level) = level_tests caller w.level level
rule_table w caller Sync = []

-- the denial of a call, or None where the rules allow it
abbrev pub decide : World → Caller → Request → Option Denial
decide w caller request = first_failing (rule_table w caller request)

-- Tests were asked in order: the result is the denial of the first that isn't met, or all are met and more is known.
abbrev pub Judges : {A : Type 0} → List Check → (A → Type 0) → Result A Denial → Type 0
Judges checks P (Ok x) = (first_failing checks ≡ None) × P x
Judges checks P (Err denial) = first_failing checks ≡ Some denial
