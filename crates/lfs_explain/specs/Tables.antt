-- The tests of a call, told from the rows that its paths lead through.
use Rattle.std.specs.Prelude.{ℕ, zero, suc, ◌+◌, ◌-◌, ◌==◌, nat_le, not, Bool, true, false, List, [], ◌∷◌, ◌++◌, length}
use Rattle.std.specs.Prelude.{map, take, Option, None, Some, is_none, slice_get, unwrap_or, if◌then◌else◌}
use Rattle.std.specs.List.{list_any}
use Rattle.lfs_types.specs.Caller.{Caller}
use Rattle.lfs_types.specs.Kinds.{is_directory_kind}
use Rattle.lfs_types.specs.Tree.{attrs_of, fresh_root}
use Rattle.lfs_types.specs.declared.attrs.Attrs.{Attrs}
use Rattle.lfs_types.specs.declared.attrs.Bit.TheVariants as bits
use Rattle.lfs_types.specs.declared.level.Level.{Level}
use Rattle.lfs_types.specs.declared.request.Place.{Place}
use Rattle.lfs_types.specs.declared.request.Request.{Request}
use Rattle.lfs_types.specs.declared.request.Request.TheVariants.{Stat, Read, Write, List as Names, SetLength, Create}
use Rattle.lfs_types.specs.declared.request.Request.TheVariants.{Mkdir, Unlink, Rmdir, Rename, Chmod, Chown, Chflags}
use Rattle.lfs_types.specs.declared.request.Request.TheVariants.{SetLevel, Sync}
use Rattle.lfs_types.specs.declared.rule.Rule.TheVariants.{IsDirectory, FitsFile, GrantsSearch, NameThere, NameFree}
use Rattle.lfs_types.specs.declared.rule.Rule.TheVariants.{IsNotRoot, IsNotBeneathItself}
use Rattle.lfs_rules.specs.Grants.{grants_of}
use Rattle.lfs_model.specs.Rules.{Check, asks, chflags_tests, chmod_tests, chown_tests, entering_tests, leaves_test}
use Rattle.lfs_model.specs.Rules.{length_tests, level_tests, list_tests, making_tests, position, read_tests}
use Rattle.lfs_model.specs.Rules.{removing_tests, replaced_tests, rmdir_tests, searching_tests, start_in, unlink_tests}
use Rattle.lfs_model.specs.Rules.{write_tests, file_max}
use Rattle.lfs_explain.specs.declared.trail.ShownRow.{ShownRow}
use Rattle.lfs_explain.specs.declared.trail.Trail.{Trail}

-- ---- a trail

-- what stands for a row that isn't there, whose tests nobody asks
abbrev pub no_row : ShownRow
no_row = record { number = 0; attrs = attrs_of fresh_root }

-- the row at a component
abbrev pub row_at : List ShownRow → ℕ → ShownRow
row_at rows_along k = unwrap_or (slice_get rows_along k) no_row

-- whether a trail goes on
abbrev pub goes_on : List ShownRow → Bool
goes_on [] = false
goes_on (row ∷ rows) = true

-- the tests of a step from a directory at component k to a name, which may be there
abbrev pub step_tests : Caller → ℕ → ℕ → Attrs → Bool → List Check
step_tests caller path k dir there =
    asks (is_directory_kind dir.kind) IsDirectory path k
    ∷ asks (grants_of caller dir bits.Search) GrantsSearch path k
    ∷ asks there NameThere path (k + 1)
    ∷ []

-- the tests of so many steps along a trail, the first from component k
abbrev pub trail_tests : Caller → ℕ → ℕ → ℕ → List ShownRow → List Check
trail_tests caller path k zero rows_along = []
trail_tests caller path k (suc n) [] = []
trail_tests caller path k (suc n) (row ∷ rows) = step_tests caller path k row.attrs (goes_on rows)
    ++ trail_tests caller path (k + 1) n rows

-- the test of so many bytes in a file from a place on
abbrev pub fits_test : Place → ℕ → Attrs → ℕ → List Check
fits_test place count attrs k = asks (nat_le (start_in place attrs.size + count) file_max) FitsFile 0 k ∷ []

-- the test of a file of this length
abbrev pub length_test : ℕ → ℕ → List Check
length_test len k = asks (nat_le len file_max) FitsFile 0 k ∷ []

-- the tests of a file that a call with one path leads to, at component k
abbrev pub own_tests : Level → Caller → Request → Attrs → ℕ → List Check
own_tests level caller (Stat path) attrs k = []
own_tests level caller (Read path off len) attrs k = read_tests caller attrs k
own_tests level caller (Names path) attrs k = list_tests caller attrs k
own_tests level caller (Write path place bytes) attrs k = write_tests caller place (length bytes) attrs k
own_tests level caller (SetLength path len) attrs k = length_tests caller len attrs k
own_tests level caller (Chmod path mode) attrs k = chmod_tests caller attrs k
own_tests level caller (Chown path uid gid) attrs k = chown_tests caller uid gid attrs k
own_tests level caller (Chflags path flags) attrs k = chflags_tests caller level flags attrs k
own_tests level caller request attrs k = []

-- ---- a path

-- what is known of a path: the rows that it leads through, how many names it has, and whether the row that they all
-- lead to has no child
pub record Path : Type 0 where
  pub rows : List ShownRow
  pub names : ℕ
  pub is_childless : Bool

abbrev pub known_path : Trail → Path
known_path trail = record { rows = trail.rows.items; names = trail.names; is_childless = trail.is_childless }

-- the row that a path's names lead to
abbrev pub last_row : Path → ShownRow
last_row path = row_at path.rows path.names

-- the directory of that row
abbrev pub dir_of : Path → ShownRow
dir_of path = row_at path.rows (path.names - 1)

-- the tests of a call with one path to a file: the walk, and its own
abbrev pub reaching_by : Caller → (Attrs → ℕ → List Check) → Path → List Check
reaching_by caller tests path = trail_tests caller 0 0 path.names path.rows ++ tests (last_row path).attrs path.names

-- the tests of a call that makes a row
abbrev pub making_by : Caller → Path → List Check
making_by caller path =
    asks (not (path.names == 0)) NameFree 0 0
    ∷ trail_tests caller 0 0 (path.names - 1) path.rows
    ++ making_tests caller (is_none (slice_get path.rows path.names)) (dir_of path).attrs (path.names - 1)

-- the tests of a call that takes away a name, up to those that a file and a directory differ in
abbrev pub removing_by : Caller → Path → List Check
removing_by caller path =
    asks (not (path.names == 0)) IsNotRoot 0 0
    ∷ trail_tests caller 0 0 path.names path.rows
    ++ removing_tests caller 0 (dir_of path).attrs (last_row path).attrs (path.names - 1)

-- ---- a row that gets another place

-- the tests of the way to the place
abbrev pub arriving_by : Caller → Path → List Check
arriving_by caller to =
    asks (not (to.names == 0)) IsNotRoot 1 0
    ∷ trail_tests caller 1 0 (to.names - 1) to.rows
    ++ searching_tests caller 1 (dir_of to).attrs (to.names - 1)

-- the tests of the directory of the place, and of what is there
abbrev pub placing_by : Caller → Attrs → Path → Option ShownRow → List Check
placing_by caller moved to None = entering_tests caller 1 (dir_of to).attrs (to.names - 1)
placing_by caller moved to (Some there) =
    removing_tests caller 1 (dir_of to).attrs there.attrs (to.names - 1)
    ++ replaced_tests to.is_childless moved there.attrs ((to.names - 1) + 1)

-- the numbers of the directories on the way to the place
abbrev pub numbers_to : Path → List ℕ
numbers_to to = map (λ (row : ShownRow). row.number) (take to.names to.rows)

-- the last tests: of the way to the place, and of what is moved
abbrev pub last_by : Caller → Path → Path → List Check
last_by caller from to =
    asks (not (list_any (λ n. n == (last_row from).number) (numbers_to to))) IsNotBeneathItself 1
    (position (last_row from).number (numbers_to to))
    ∷ leaves_test caller ((dir_of from).number == (dir_of to).number) (last_row from).attrs from.names
    ∷ []

-- whether what is there is the row of this number
abbrev pub is_itself : ℕ → Option ShownRow → Bool
is_itself n None = false
is_itself n (Some row) = row.number == n

-- the tests of a row that gets a place: none where it has that place already
abbrev pub moving_by : Caller → Path → Path → Option ShownRow → List Check
moving_by caller from to there =
    if is_itself (last_row from).number there then [] else
    placing_by caller (last_row from).attrs to there ++ last_by caller from to

-- ---- a call

-- the tests of a call, by what its paths lead through
abbrev pub table_by : Level → Caller → Request → Path → Path → List Check
table_by level caller (Stat path) first second = reaching_by caller (own_tests level caller (Stat path)) first
table_by level caller (Read path off len) first second =
    reaching_by caller (own_tests level caller (Read path off len)) first
table_by level caller (Names path) first second = reaching_by caller (own_tests level caller (Names path)) first
table_by level caller (Write path place bytes) first second =
    reaching_by caller (own_tests level caller (Write path place bytes)) first
table_by level caller (SetLength path len) first second =
    reaching_by caller (own_tests level caller (SetLength path len)) first
table_by level caller (Create path mode) first second = making_by caller first
table_by level caller (Mkdir path mode) first second = making_by caller first
table_by level caller (Unlink path) first second = removing_by caller first
    ++ unlink_tests (last_row first).attrs first.names
table_by level caller (Rmdir path) first second =
    removing_by caller first ++ rmdir_tests first.is_childless (last_row first).attrs first.names
table_by level caller (Rename from to) first second =
    removing_by caller first ++ (arriving_by caller second
    ++ moving_by caller first second (slice_get second.rows second.names))
table_by level caller (Chmod path mode) first second =
    reaching_by caller (own_tests level caller (Chmod path mode)) first
table_by level caller (Chown path uid gid) first second =
    reaching_by caller (own_tests level caller (Chown path uid gid)) first
table_by level caller (Chflags path flags) first second =
    reaching_by caller (own_tests level caller (Chflags path flags)) first
table_by level caller (SetLevel new) first second = level_tests caller level new
table_by level caller Sync first second = []
