-- The rows that names lead through, as far as they lead.
use Rattle.std.specs.Prelude.{◌≡◌, ◌==◌, ℕ, List, [], ◌∷◌, length, Option, None, Some, slice_get}
use Rattle.lfs_types.specs.Tree.{root}
use Rattle.lfs_types.specs.declared.request.Request.{Request}
use Rattle.lfs_types.specs.declared.request.Request.TheVariants.{Stat, Read, Write, List as Names, SetLength, Create}
use Rattle.lfs_types.specs.declared.request.Request.TheVariants.{Mkdir, Unlink, Rmdir, Rename, Chmod, Chown, Chflags}
use Rattle.lfs_types.specs.declared.request.Request.TheVariants.{SetLevel, Sync}
use Rattle.lfs_model.specs.World.{Rows, child, children}
use Rattle.lfs_model.specs.Rules.{attrs_at}
use Rattle.lfs_explain.specs.declared.trail.ShownRow.{ShownRow}
use Rattle.lfs_explain.specs.declared.trail.Trail.{Trail}

-- a row as users see it
abbrev pub shown_row : Rows → ℕ → ShownRow
shown_row rows n = record { number = n; attrs = attrs_at rows n }

-- the rows from the one of a number on, if there is a number
abbrev pub onward : Option ℕ → (ℕ → List ShownRow) → List ShownRow
onward None more = []
onward (Some n) more = more n

-- the rows that names lead through from a row, it and the last among them; they end where a name isn't there
abbrev pub rows_along : Rows → ℕ → List (List ℕ) → List ShownRow
rows_along rows at [] = shown_row rows at ∷ []
rows_along rows at (name ∷ names) = shown_row rows at ∷ onward (child rows at name) (λ n. rows_along rows n names)

-- What is known of a path: the rows that its names lead through from the root, how many names it has, and whether the
-- row that they all lead to, if there is one, has no child.
pub record IsTrail (rows : Rows) (names : List (List ℕ)) (trail : Trail) : Type 0 where
  pub rows_are : trail.rows.items ≡ rows_along rows root names
  pub counted : trail.names ≡ length names
  pub childless : (row : ShownRow) → slice_get trail.rows.items trail.names ≡ Some row → trail.is_childless
      ≡ (length (children rows row.number) == 0)

-- the names of a call's first path, none where it has none
abbrev pub first_names : Request → List (List ℕ)
first_names (Stat path) = path
first_names (Read path off len) = path
first_names (Names path) = path
first_names (Write path place bytes) = path
first_names (SetLength path len) = path
first_names (Create path mode) = path
first_names (Mkdir path mode) = path
first_names (Unlink path) = path
first_names (Rmdir path) = path
first_names (Rename from to) = from
first_names (Chmod path mode) = path
first_names (Chown path uid gid) = path
first_names (Chflags path flags) = path
first_names (SetLevel level) = []
first_names Sync = []

-- those of its second path
abbrev pub second_names : Request → List (List ℕ)
second_names (Rename from to) = to
second_names request = []
