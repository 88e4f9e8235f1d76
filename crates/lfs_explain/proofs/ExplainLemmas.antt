-- The tests told of any call, from its trails, are asked as those of `rule_table`: `told`, for `explain` and ActLemmas
-- of `lfs_who`. A trail is the rows along its path with their count (`path_is`), so each call is a case of TableLemmas
-- or MoveLemmas, and its own tests are the same by the attributes. The level is handed over apart from the trails, and
-- is the world's; a new request needs its line here and in `table_by`.
use Rattle.std.proofs.Common.{◌≡◌, ℕ, ◌==◌, ◌++◌, List, length, Some, refl, sym, ap, ◌∙◌}
use Rattle.std.specs.Prelude.{slice_get}
use Rattle.std.specs.FinMap as fin
use Rattle.lfs_types.specs.Caller.{Caller}
use Rattle.lfs_types.specs.Tree.{World, root}
use Rattle.lfs_types.specs.declared.level.Level.{Level}
use Rattle.lfs_types.specs.declared.request.Request.{Request}
use Rattle.lfs_types.specs.declared.request.Request.TheVariants.{Stat, Read, Write, List as Names, SetLength, Create}
use Rattle.lfs_types.specs.declared.request.Request.TheVariants.{Mkdir, Unlink, Rmdir, Rename, Chmod, Chown, Chflags}
use Rattle.lfs_types.specs.declared.request.Request.TheVariants.{SetLevel, Sync}
use Rattle.lfs_types.proofs.Somewhere.{There, some_and}
use Rattle.lfs_model.specs.World.{Rows, IsTree, children}
use Rattle.lfs_model.specs.Rules.{chflags_tests, level_tests, reaching, rule_table}
use Rattle.lfs_explain.specs.Asked.{asked}
use Rattle.lfs_explain.specs.Tables.{Path, arriving_by, known_path, last_row, making_by, moving_by, own_tests}
use Rattle.lfs_explain.specs.Tables.{reaching_by, removing_by, table_by}
use Rattle.lfs_model.specs.Rules.{rmdir_tests, unlink_tests}
use Rattle.lfs_explain.specs.Trails.{IsTrail, first_names, second_names, rows_along}
use Rattle.lfs_explain.specs.declared.trail.ShownRow.{ShownRow}
use Rattle.lfs_explain.specs.declared.trail.Trail.{Trail}
use Rattle.lfs_explain.proofs.MoveLemmas.{rename_told}
use Rattle.lfs_explain.proofs.TableLemmas.{making_told, path_to, reaching_told, rmdir_told, unlink_told}

-- the root is there
pub root_there : (rows : Rows) → IsTree rows → There (fin.get rows root)
root_there rows tree = let r = some_and (fin.get rows root) _ tree.rooted in record { value = r.value; is = r.is }

module _ {rows : Rows} {names : List (List ℕ)} {trail : Trail} (t : IsTrail rows names trail) where
  path_is : known_path trail ≡ path_to rows names trail.is_childless
  path_is = λ i. record { rows = t.rows_are i; names = t.counted i; is_childless = trail.is_childless }

  end_childless : (row : ShownRow) → slice_get (rows_along rows root names) (length names) ≡ Some row
      → trail.is_childless ≡ (length (children rows row.number) == 0)
  end_childless row is =
      t.childless row (ap (λ rs. slice_get rs trail.names) t.rows_are
      ∙ ap (λ n. slice_get (rows_along rows root names) n) t.counted ∙ is)

module _ (w : World) (tree : IsTree w.rows) (level : Level) (at : w.level ≡ level) (caller : Caller)
    (first second : Trail) where
  there : There (fin.get w.rows root)
  there = root_there w.rows tree

  reaches : (request : Request) (names : List (List ℕ)) → IsTrail w.rows names first
      → asked (reaching_by caller (own_tests level caller request) (known_path first))
      ≡ asked (reaching w.rows caller names (own_tests level caller request))
  reaches request names t =
      ap (λ (p : Path). asked (reaching_by caller (own_tests level caller request) p)) (path_is t)
      ∙ reaching_told w.rows caller there names first.is_childless (own_tests level caller request)

  makes : (names : List (List ℕ)) → IsTrail w.rows names first → asked (making_by caller (known_path first))
      ≡ asked (rule_table w caller (Create names 0))
  makes names t = ap (λ (p : Path). asked (making_by caller p)) (path_is t)
      ∙ making_told w.rows caller there names first.is_childless

  pub told : (request : Request) → IsTrail w.rows (first_names request) first
      → IsTrail w.rows (second_names request) second
      → asked (table_by level caller request (known_path first) (known_path second))
      ≡ asked (rule_table w caller request)
  told (Stat path) t s = reaches (Stat path) path t
  told (Read path off len) t s = reaches (Read path off len) path t
  told (Names path) t s = reaches (Names path) path t
  told (Write path place bytes) t s = reaches (Write path place bytes) path t
  told (SetLength path len) t s = reaches (SetLength path len) path t
  told (Create path mode) t s = makes path t
  told (Mkdir path mode) t s = makes path t
  told (Unlink path) t s =
      ap (λ (p : Path). asked (removing_by caller p ++ unlink_tests (last_row p).attrs p.names)) (path_is t)
      ∙ unlink_told w.rows caller there path first.is_childless
  told (Rmdir path) t s =
      ap (λ (p : Path). asked (removing_by caller p ++ rmdir_tests p.is_childless (last_row p).attrs p.names))
      (path_is t)
      ∙ rmdir_told w.rows caller there path first.is_childless (end_childless t)
  told (Rename from to) t s =
      ap (λ (p : Path). asked (removing_by caller p
      ++ (arriving_by caller (known_path second)
      ++ moving_by caller p (known_path second) (slice_get second.rows.items second.names)))) (path_is t)
      ∙ ap (λ (p : Path). asked (removing_by caller (path_to w.rows from first.is_childless)
      ++ (arriving_by caller p ++ moving_by caller (path_to w.rows from first.is_childless) p
      (slice_get p.rows p.names)))) (path_is s)
      ∙ rename_told w.rows caller there from to first.is_childless second.is_childless (end_childless s)
  told (Chmod path mode) t s = reaches (Chmod path mode) path t
  told (Chown path uid gid) t s = reaches (Chown path uid gid) path t
  told (Chflags path flags) t s =
      reaches (Chflags path flags) path t ∙ ap (λ l. asked (reaching w.rows caller path (chflags_tests caller l flags)))
      (sym at)
  told (SetLevel new) t s = ap (λ l. asked (level_tests caller l new)) (sym at)
  told Sync t s = refl
