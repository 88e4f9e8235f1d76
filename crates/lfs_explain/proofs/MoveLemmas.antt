-- The tests of a Rename told from the rows of its two paths are asked as those of the rules: `rename_told`, for
-- ExplainLemmas. What stands behind the two walks is compared only where both trails are long enough, and there the
-- moved row, both directories and the row in the new place are rows of the trails (`moving_is`). The way to the place
-- is the front of the second trail (`trail_is`); whether the row there is childless is known from the trail (IsKnown),
-- so a test of another row's children couldn't be told.
use Rattle.std.proofs.Common.{◌≡◌, ℕ, suc, ◌+◌, ◌-◌, ◌<◌, ◌==◌, Bool, cond, List, [], ◌∷◌, ◌++◌, length, take, map}
use Rattle.std.proofs.Common.{Option, None, Some, refl, sym, ap, ◌∙◌, arith}
use Rattle.std.specs.Prelude.{not, slice_get}
use Rattle.std.specs.List.{list_any}
use Rattle.std.specs.FinMap as fin
use Rattle.lfs_types.specs.Caller.{Caller}
use Rattle.lfs_types.specs.Tree.{root}
use Rattle.lfs_types.specs.declared.rule.Rule.TheVariants.{IsNotBeneathItself}
use Rattle.lfs_types.proofs.Somewhere.{There}
use Rattle.lfs_model.specs.World.{Rows, child, children}
use Rattle.lfs_model.specs.Rules.{arriving, asks, attrs_at, entering_tests, front, last, last_tests, leaves_test}
use Rattle.lfs_model.specs.Rules.{moving_tests, placing_tests, position, reached, removing, removing_tests}
use Rattle.lfs_model.specs.Rules.{replaced_tests, visited}
use Rattle.lfs_checks.proofs.LastNames.{front_stands}
use Rattle.lfs_explain.specs.Asked.{asked}
use Rattle.lfs_explain.specs.Tables.{Path, arriving_by, dir_of, last_by, last_row, moving_by, numbers_to, placing_by}
use Rattle.lfs_explain.specs.Tables.{removing_by}
use Rattle.lfs_explain.specs.Trails.{shown_row, rows_along}
use Rattle.lfs_explain.specs.declared.trail.ShownRow.{ShownRow}
use Rattle.lfs_explain.proofs.TableLemmas.{arriving_told, dir_is, end_is, length_front, path_to, removing_told}
use Rattle.lfs_explain.proofs.TableLemmas.{there_is}
use Rattle.lfs_explain.proofs.TrailLemmas.{each_seen, number_of, visited_told}

module _ (rows : Rows) (caller : Caller) (from to : List (List ℕ)) (e1 e2 : Bool)
    (some_from : 0 < length from) (long_from : length from < length (rows_along rows root from))
    (some_to : 0 < length to) (long_to : length to - 1 < length (rows_along rows root to)) where
  abbrev p1 : Path
  p1 = path_to rows from e1

  abbrev p2 : Path
  p2 = path_to rows to e2

  abbrev moved : ℕ
  moved = reached rows root from

  moved_is : last_row p1 ≡ shown_row rows moved
  moved_is = end_is rows from long_from

  old_dir : dir_of p1 ≡ shown_row rows (reached rows root (front from))
  old_dir = dir_is rows from some_from (omega (arith, long_from))

  new_dir : dir_of p2 ≡ shown_row rows (reached rows root (front to))
  new_dir = dir_is rows to some_to long_to

  depth : length (front to) ≡ length to - 1
  depth = length_front to some_to

  -- the directories on the way to the place
  trail_is : visited rows root (front to) ≡ numbers_to p2
  trail_is =
      let next : suc (length to - 1) ≡ length to = omega (arith, some_to) in
      ap (λ ns. visited rows root ns) (sym (front_stands to some_to))
      ∙ visited_told rows to root (length to - 1) (omega arith) long_to
      ∙ ap (λ k. map (λ (row : ShownRow). row.number) (take k (rows_along rows root to))) next

  -- the last tests
  last_is : last_tests rows caller from to ≡ last_by caller p1 p2
  last_is =
      ap (λ vs. asks (not (list_any (λ n. n == moved) vs)) IsNotBeneathItself 1 (position moved vs)
      ∷ leaves_test caller (reached rows root (front from) == reached rows root (front to)) (attrs_at rows moved)
      (length from) ∷ []) trail_is
      ∙ ap (λ (s : ShownRow). asks (not (list_any (λ n. n == s.number) (numbers_to p2))) IsNotBeneathItself 1
      (position s.number (numbers_to p2)) ∷ leaves_test caller
      (reached rows root (front from) == reached rows root (front to)) s.attrs (length from) ∷ []) (sym moved_is)
      ∙ ap (λ (s : ShownRow). asks (not (list_any (λ n. n == (last_row p1).number) (numbers_to p2))) IsNotBeneathItself
      1 (position (last_row p1).number (numbers_to p2))
      ∷ leaves_test caller (s.number == reached rows root (front to)) (last_row p1).attrs (length from) ∷ [])
      (sym old_dir)
      ∙ ap (λ (s : ShownRow). asks (not (list_any (λ n. n == (last_row p1).number) (numbers_to p2))) IsNotBeneathItself
      1 (position (last_row p1).number (numbers_to p2))
      ∷ leaves_test caller ((dir_of p1).number == s.number) (last_row p1).attrs (length from) ∷ []) (sym new_dir)

  -- what is there is as users see it, and it is known whether it has a child
  pub record IsKnown (o : Option ShownRow) : Type 0 where
    pub seen : (row : ShownRow) → o ≡ Some row → row ≡ shown_row rows row.number
    pub childless : (row : ShownRow) → o ≡ Some row → e2 ≡ (length (children rows row.number) == 0)

  taken_is : (row : ShownRow) → row ≡ shown_row rows row.number → e2 ≡ (length (children rows row.number) == 0)
      → placing_tests rows caller moved (reached rows root (front to)) (Some row.number) (length (front to))
      ≡ placing_by caller (last_row p1).attrs p2 (Some row)
  taken_is row seen childless =
      ap (λ (s : ShownRow). removing_tests caller 1 s.attrs (attrs_at rows row.number) (length (front to))
      ++ replaced_tests (length (children rows row.number) == 0) (attrs_at rows moved) (attrs_at rows row.number)
      (length (front to) + 1)) (sym new_dir)
      ∙ ap (λ (s : ShownRow). removing_tests caller 1 (dir_of p2).attrs s.attrs (length (front to))
      ++ replaced_tests (length (children rows row.number) == 0) (attrs_at rows moved) s.attrs (length (front to)
      + 1)) (sym seen)
      ∙ ap (λ b. removing_tests caller 1 (dir_of p2).attrs row.attrs (length (front to))
      ++ replaced_tests b (attrs_at rows moved) row.attrs (length (front to) + 1)) (sym childless)
      ∙ ap (λ (s : ShownRow). removing_tests caller 1 (dir_of p2).attrs row.attrs (length (front to))
      ++ replaced_tests e2 s.attrs row.attrs (length (front to) + 1)) (sym moved_is)
      ∙ ap (λ k. removing_tests caller 1 (dir_of p2).attrs row.attrs k
      ++ replaced_tests e2 (last_row p1).attrs row.attrs (k + 1)) depth

  free_is : placing_tests rows caller moved (reached rows root (front to)) None (length (front to))
      ≡ placing_by caller (last_row p1).attrs p2 None
  free_is =
      ap (λ (s : ShownRow). entering_tests caller 1 s.attrs (length (front to))) (sym new_dir)
      ∙ ap (λ k. entering_tests caller 1 (dir_of p2).attrs k) depth

  -- the tests behind the way to the place
  moving_is : (o : Option ShownRow) → IsKnown o → moving_tests rows caller from to (number_of o)
      ≡ moving_by caller p1 p2 o
  moving_is None known =
      ap (λ ts. ts ++ last_tests rows caller from to) free_is
      ∙ ap (λ ts. placing_by caller (last_row p1).attrs p2 None ++ ts) last_is
  moving_is (Some row) known =
      ap (λ (s : ShownRow). cond (row.number == s.number) []
      (placing_tests rows caller moved (reached rows root (front to)) (Some row.number) (length (front to))
      ++ last_tests rows caller from to)) (sym moved_is)
      ∙ ap (λ ts. cond (row.number == (last_row p1).number) [] (ts ++ last_tests rows caller from to))
      (taken_is row (known.seen row refl) (known.childless row refl))
      ∙ ap (λ ts. cond (row.number == (last_row p1).number) [] (placing_by caller (last_row p1).attrs p2 (Some row)
      ++ ts)) last_is

  pub moving_told : ((row : ShownRow) → slice_get (rows_along rows root to) (length to) ≡ Some row → e2
      ≡ (length (children rows row.number) == 0))
      → moving_tests rows caller from to (child rows (reached rows root (front to)) (last to))
      ≡ moving_by caller p1 p2 (slice_get (rows_along rows root to) (length to))
  moving_told childless =
      ap (λ o. moving_tests rows caller from to o) (there_is rows to some_to long_to)
      ∙ moving_is (slice_get (rows_along rows root to) (length to))
      (record { seen = λ row is. each_seen rows to root (length to) row is; childless = childless })

-- a Rename
pub rename_told : (rows : Rows) (caller : Caller) → There (fin.get rows root) → (from to : List (List ℕ)) (e1 e2 : Bool)
    → ((row : ShownRow) → slice_get (rows_along rows root to) (length to) ≡ Some row → e2
    ≡ (length (children rows row.number) == 0))
    → asked (removing_by caller (path_to rows from e1)
    ++ (arriving_by caller (path_to rows to e2)
    ++ moving_by caller (path_to rows from e1) (path_to rows to e2)
    (slice_get (rows_along rows root to) (length to))))
    ≡ asked (removing rows caller from ++ (arriving rows caller to
    ++ moving_tests rows caller from to (child rows (reached rows root (front to)) (last to))))
rename_told rows caller there from to e1 e2 childless =
    sym (removing_told rows caller there from e1 _ _ (λ some_from long_from.
    arriving_told rows caller there to e2 _ _ (λ some_to long_to.
    ap asked (moving_told rows caller from to e1 e2 some_from long_from some_to long_to childless))))
