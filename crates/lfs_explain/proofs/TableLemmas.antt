-- The tests that are told from the rows on a path are asked as those of `rule_table`: `reaching_told`, `making_told`,
-- `removing_told` and the two behind it for ExplainLemmas, `arriving_told` for MoveLemmas; ActLemmas of `lfs_who` uses
-- them too. Only the tests up to the first unmet one are compared (`asked`), so what stands behind a walk must be the
-- same only where the rows go so far, and there the last row and its directory are those of the path (`end_is`,
-- `dir_is`). The whole tables aren't the same, since `rule_table` goes on with row 0 where a name isn't there; a test
-- asked of another row than the last or its directory has no place in a trail.
use Rattle.std.proofs.Common.{◌≡◌, ℕ, zero, suc, ◌-◌, ◌<◌, ◌==◌, Bool, true, List, [], ◌∷◌, ◌++◌, length, take, Option}
use Rattle.std.proofs.Common.{None, Some, refl, sym, ap, ◌∙◌, arith, append_assoc}
use Rattle.std.proofs.lemmas.List.{take_all}
use Rattle.std.specs.Prelude.{is_none, not, unwrap_or, slice_get}
use Rattle.std.specs.FinMap as fin
use Rattle.lfs_types.specs.Caller.{Caller}
use Rattle.lfs_types.specs.Tree.{root}
use Rattle.lfs_types.specs.declared.attrs.Attrs.{Attrs}
use Rattle.lfs_types.proofs.Somewhere.{There}
use Rattle.lfs_model.specs.World.{Rows, child, children}
use Rattle.lfs_model.specs.Rules.{Check, arriving, attrs_at, front, last, making, making_tests, reached, reaching}
use Rattle.lfs_model.specs.Rules.{removing, removing_tests, rmdir_tests, searching_tests, unlink_tests, walk}
use Rattle.lfs_checks.proofs.LastNames.{front_stands}
use Rattle.lfs_explain.specs.Asked.{asked}
use Rattle.lfs_explain.specs.Tables.{Path, arriving_by, last_row, making_by, no_row, reaching_by, removing_by, row_at}
use Rattle.lfs_explain.specs.Tables.{trail_tests}
use Rattle.lfs_explain.specs.Trails.{shown_row, rows_along}
use Rattle.lfs_explain.specs.declared.trail.ShownRow.{ShownRow}
use Rattle.lfs_explain.proofs.Askings.{append_same, test_same}
use Rattle.lfs_explain.proofs.TrailLemmas.{end_told, number_of, seat, walk_told}

-- a path of some names
abbrev pub path_to : Rows → List (List ℕ) → Bool → Path
path_to rows names empty = record { rows = rows_along rows root names; names = length names; is_childless = empty }

-- a list that has something is not empty
pub some_names : (n : ℕ) → not (n == 0) ≡ true → 0 < n
some_names zero h = absurd (cc)
some_names (suc n) h = omega arith

pub length_front : (names : List (List ℕ)) → 0 < length names → length (front names) ≡ length names - 1
length_front [] some = absurd (omega (arith, some))
length_front (x ∷ []) some = omega arith
length_front (x ∷ y ∷ names) some =
    let rest = length_front (y ∷ names) (omega arith) in
    omega (arith, rest)

none_same : (o : Option ShownRow) → is_none (number_of o) ≡ is_none o
none_same None = refl
none_same (Some row) = refl

-- what has the last name of some
pub there_is : (rows : Rows) (names : List (List ℕ)) → 0 < length names
    → length names - 1 < length (rows_along rows root names)
    → child rows (reached rows root (front names)) (last names)
    ≡ number_of (slice_get (rows_along rows root names) (length names))
there_is rows [] some long = absurd (omega (arith, some))
there_is rows (name ∷ names) some long = end_told rows names name root (omega (arith, long))

module _ (rows : Rows) (names : List (List ℕ)) where
  abbrev pub steps : List ShownRow
  steps = rows_along rows root names

  abbrev pub count : ℕ
  count = length names

  all_names : take count names ≡ names
  all_names = take_all count names (omega arith)

  -- the row that the names lead to
  pub end_is : count < length steps → row_at steps count ≡ shown_row rows (reached rows root names)
  end_is long =
      ap (λ (o : Option ShownRow). unwrap_or o no_row) (seat rows names root count (omega arith) long)
      ∙ ap (λ ns. shown_row rows (reached rows root ns)) all_names

  pub end_stands : count < length steps → slice_get steps count ≡ Some (shown_row rows (reached rows root names))
  end_stands long = seat rows names root count (omega arith) long
      ∙ ap (λ ns. Some (shown_row rows (reached rows root ns))) all_names

  module _ (some : 0 < count) where
    -- the directory of the last name
    pub dir_is : count - 1 < length steps → row_at steps (count - 1) ≡ shown_row rows (reached rows root (front names))
    dir_is long =
        ap (λ (o : Option ShownRow). unwrap_or o no_row) (seat rows names root (count - 1) (omega arith) long)
        ∙ ap (λ ns. shown_row rows (reached rows root ns)) (front_stands names some)

    -- a walk along the names before the last
    pub front_walk : (caller : Caller) (path : ℕ) → There (fin.get rows root) → (xs ys : List Check)
        → (count - 1 < length steps → asked xs ≡ asked ys)
        → asked (walk rows caller path 0 root (front names) ++ xs)
        ≡ asked (trail_tests caller path 0 (count - 1) steps ++ ys)
    front_walk caller path there xs ys same =
        ap (λ ns. asked (walk rows caller path 0 root ns ++ xs)) (sym (front_stands names some))
        ∙ walk_told rows caller path names 0 root (count - 1) there (omega arith) xs ys same

  -- a walk along all of them
  pub whole_walk : (caller : Caller) (path : ℕ) → There (fin.get rows root) → (xs ys : List Check)
      → (count < length steps → asked xs ≡ asked ys)
      → asked (walk rows caller path 0 root names ++ xs) ≡ asked (trail_tests caller path 0 count steps ++ ys)
  whole_walk caller path there xs ys same =
      ap (λ ns. asked (walk rows caller path 0 root ns ++ xs)) (sym all_names)
      ∙ walk_told rows caller path names 0 root count there (omega arith) xs ys same

module _ (rows : Rows) (caller : Caller) (there : There (fin.get rows root)) where
  -- a call with one path to a file
  pub reaching_told : (names : List (List ℕ)) (empty : Bool) (tests : Attrs → ℕ → List Check)
      → asked (reaching_by caller tests (path_to rows names empty)) ≡ asked (reaching rows caller names tests)
  reaching_told names empty tests =
      sym (whole_walk rows names caller 0 there
      (tests (attrs_at rows (reached rows root names)) (length names))
      (tests (row_at (rows_along rows root names) (length names)).attrs (length names))
      (λ long. ap (λ (s : ShownRow). asked (tests s.attrs (length names))) (sym (end_is rows names long))))

  -- a call that makes a row
  pub making_told : (names : List (List ℕ)) (empty : Bool) → asked (making_by caller (path_to rows names empty))
      ≡ asked (making rows caller names)
  making_told names empty =
      let steps = rows_along rows root names in
      let count = length names in
      sym (test_same (not (count == 0)) _ _ _ (λ met.
      let some = some_names count met in
      front_walk rows names some caller 0 there _
      (making_tests caller (is_none (slice_get steps count)) (row_at steps (count - 1)).attrs (count - 1))
      (λ long.
      ap (λ (o : Option ℕ). asked (making_tests caller (is_none o) (attrs_at rows (reached rows root (front names)))
      (length (front names)))) (there_is rows names some long)
      ∙ ap (λ b. asked (making_tests caller b (attrs_at rows (reached rows root (front names))) (length (front names))))
      (none_same (slice_get steps count))
      ∙ ap (λ (s : ShownRow). asked (making_tests caller (is_none (slice_get steps count)) s.attrs
      (length (front names)))) (sym (dir_is rows names some long))
      ∙ ap (λ k. asked (making_tests caller (is_none (slice_get steps count)) (row_at steps (count - 1)).attrs k))
      (length_front names some))))

  -- a call that takes away a name, and tests behind
  pub removing_told : (names : List (List ℕ)) (empty : Bool) (xs ys : List Check)
      → (0 < length names → length names < length (rows_along rows root names) → asked xs ≡ asked ys)
      → asked (removing rows caller names ++ xs) ≡ asked (removing_by caller (path_to rows names empty) ++ ys)
  removing_told names empty xs ys same =
      let steps = rows_along rows root names in
      let count = length names in
      let dir = attrs_at rows (reached rows root (front names)) in
      let file = attrs_at rows (reached rows root names) in
      test_same (not (count == 0)) _ _ _ (λ met.
      let some = some_names count met in
      ap asked (append_assoc (walk rows caller 0 0 root names)
      (removing_tests caller 0 dir file (length (front names))) xs)
      ∙ whole_walk rows names caller 0 there
      (removing_tests caller 0 dir file (length (front names)) ++ xs)
      (removing_tests caller 0 (row_at steps (count - 1)).attrs (row_at steps count).attrs (count - 1) ++ ys)
      (λ long.
      let near : count - 1 < length steps = omega (arith, long) in
      ap (λ (s : ShownRow). asked (removing_tests caller 0 s.attrs file (length (front names)) ++ xs))
      (sym (dir_is rows names some near))
      ∙ ap (λ (s : ShownRow). asked (removing_tests caller 0 (row_at steps (count - 1)).attrs s.attrs
      (length (front names)) ++ xs)) (sym (end_is rows names long))
      ∙ ap (λ k. asked (removing_tests caller 0 (row_at steps (count - 1)).attrs (row_at steps count).attrs k ++ xs))
      (length_front names some)
      ∙ append_same (removing_tests caller 0 (row_at steps (count - 1)).attrs (row_at steps count).attrs (count - 1)) xs
      ys (same some long))
      ∙ ap asked (sym (append_assoc (trail_tests caller 0 0 count steps)
      (removing_tests caller 0 (row_at steps (count - 1)).attrs (row_at steps count).attrs (count - 1)) ys)))

  -- a file
  pub unlink_told : (names : List (List ℕ)) (empty : Bool)
      → asked (removing_by caller (path_to rows names empty)
      ++ unlink_tests (last_row (path_to rows names empty)).attrs (length names))
      ≡ asked (removing rows caller names ++ unlink_tests (attrs_at rows (reached rows root names)) (length names))
  unlink_told names empty =
      sym (removing_told names empty _ _ (λ some long. ap
      (λ (s : ShownRow). asked (unlink_tests s.attrs (length names))) (sym (end_is rows names long))))

  -- a directory
  pub rmdir_told : (names : List (List ℕ)) (empty : Bool)
      → ((row : ShownRow) → slice_get (rows_along rows root names) (length names) ≡ Some row → empty
      ≡ (length (children rows row.number) == 0))
      → asked (removing_by caller (path_to rows names empty)
      ++ rmdir_tests empty (last_row (path_to rows names empty)).attrs (length names))
      ≡ asked (removing rows caller names ++ rmdir_tests (length (children rows (reached rows root names)) == 0)
      (attrs_at rows (reached rows root names)) (length names))
  rmdir_told names empty childless =
      sym (removing_told names empty _ _ (λ some long.
      ap (λ b. asked (rmdir_tests b (attrs_at rows (reached rows root names)) (length names)))
      (sym (childless _ (end_stands rows names long)))
      ∙ ap (λ (s : ShownRow). asked (rmdir_tests empty s.attrs (length names))) (sym (end_is rows names long))))

  -- the way to a place, and tests behind
  pub arriving_told : (names : List (List ℕ)) (empty : Bool) (xs ys : List Check)
      → (0 < length names → length names - 1 < length (rows_along rows root names) → asked xs ≡ asked ys)
      → asked (arriving rows caller names ++ xs) ≡ asked (arriving_by caller (path_to rows names empty) ++ ys)
  arriving_told names empty xs ys same =
      let steps = rows_along rows root names in
      let count = length names in
      let dir = attrs_at rows (reached rows root (front names)) in
      test_same (not (count == 0)) _ _ _ (λ met.
      let some = some_names count met in
      ap asked (append_assoc (walk rows caller 1 0 root (front names))
      (searching_tests caller 1 dir (length (front names))) xs)
      ∙ front_walk rows names some caller 1 there
      (searching_tests caller 1 dir (length (front names)) ++ xs)
      (searching_tests caller 1 (row_at steps (count - 1)).attrs (count - 1) ++ ys)
      (λ long.
      ap (λ (s : ShownRow). asked (searching_tests caller 1 s.attrs (length (front names)) ++ xs))
      (sym (dir_is rows names some long))
      ∙ ap (λ k. asked (searching_tests caller 1 (row_at steps (count - 1)).attrs k ++ xs)) (length_front names some)
      ∙ append_same (searching_tests caller 1 (row_at steps (count - 1)).attrs (count - 1)) xs ys (same some long))
      ∙ ap asked (sym (append_assoc (trail_tests caller 1 0 (count - 1) steps)
      (searching_tests caller 1 (row_at steps (count - 1)).attrs (count - 1)) ys)))
