-- A removal is judged by the walk to the directory, the step to the name, and the tests of both rows: `remove_denied`,
-- `remove_stopped`, `remove_decided` and `removal_is`, for `judge_remove`. The walk along the whole path is that to its
-- directory with one step more (`walked_last`), so where either stops the call is denied as the rules say; behind it
-- the store's attributes are those tested. The judge keeps both rows for what comes after (`removal_is`), so the row's
-- number isn't looked up again; tests that asked for another row would have to be handed on too.
use Rattle.std.proofs.Common.{◌≡◌, ℕ, ◌+◌, ◌<◌, List, [], ◌∷◌, ◌++◌, length, Option, Some, Result, Ok, Err, refl, sym}
use Rattle.std.proofs.Common.{ap, ◌∙◌, arith}
use Rattle.std.specs.Prelude.{not, unwrap_or}
use Rattle.std.proofs.lemmas.Bool.{cond-true, ne_eqb}
use Rattle.lfs_types.specs.Caller.{Caller}
use Rattle.lfs_types.specs.Stored.{shown_attrs}
use Rattle.lfs_types.specs.Tree.{World, Content, root}
use Rattle.lfs_types.specs.declared.attrs.Attrs.{Attrs}
use Rattle.lfs_types.specs.declared.rule.Denial.{Denial}
use Rattle.lfs_model.specs.World.{Rows, child}
use Rattle.lfs_model.specs.Rules.{Check, first_failing, attrs_at, next, reached, removing, removing_tests, front}
use Rattle.lfs_calls.specs.Removes.{IsRemoval}
use Rattle.lfs_model.specs.Walks.{stepped, and_then, walked}
use Rattle.lfs_model.proofs.Deciding.{after_walk, failing_walk, walked-reached}
use Rattle.lfs_calls.proofs.MakeLemmas.{Way, make_object, last_is, front-last}
use Rattle.lfs_calls.proofs.StepLemmas.{attrs_reads, directory_reads}
use Rattle.lfs_model.proofs.WalkLemmas.{stepped-directory, stepped-child, walked_last}

-- ---- the tests, behind a walk to the name

-- those behind the walk
abbrev own_tests : Rows → Caller → List (List ℕ) → List Check
own_tests rows caller names = removing_tests caller 0 (attrs_at rows (reached rows root (front names)))
    (attrs_at rows (reached rows root names)) (length (front names))

to_walk : (rows : Rows) (caller : Caller) (names : List (List ℕ)) → 0 < length names
    → first_failing (removing rows caller names)
    ≡ after_walk (walked rows caller 0 0 root names) (first_failing (own_tests rows caller names))
to_walk rows caller names some =
    cond-true _ _ _ (ap not (ne_eqb (length names) 0 (λ z. absurd (omega arith))))
    ∙ failing_walk rows caller 0 0 root names (own_tests rows caller names)

-- where the walk to the directory is denied, the call is
pub remove_denied : (rows : Rows) (caller : Caller) (names parents : List (List ℕ)) (name : List ℕ) → names ≡ parents
    ++ name ∷ [] → length parents + 1 ≡ length names → (denial : Denial)
    → walked rows caller 0 0 root parents ≡ Err denial → first_failing (removing rows caller names) ≡ Some denial
remove_denied rows caller names parents name e count denial h =
    to_walk rows caller names (omega (arith, count))
    ∙ ap (λ ys. after_walk (walked rows caller 0 0 root ys) (first_failing (own_tests rows caller names))) e
    ∙ ap (λ r. after_walk r (first_failing (own_tests rows caller names)))
    (walked_last rows caller 0 0 root parents name
    ∙ ap (λ r. and_then r (λ n. stepped rows caller 0 (0 + length parents) n name)) h)

-- ---- the directory and the row

-- where names lead that end in a name
reached-last : (rows : Rows) (at : ℕ) (names : List (List ℕ)) (name : List ℕ) → reached rows at (names ++ name ∷ [])
    ≡ next rows (reached rows at names) name
reached-last rows at [] name = refl
reached-last rows at (x ∷ xs) name = reached-last rows (next rows at x) xs name

module _ {c : Content} {w : World} {caller : Caller} {names parents : List (List ℕ)} {name : List ℕ} {d : ℕ} {a : Attrs}
    (way : Way c w caller 0 names parents name d a) where
  abbrev failing : Option Denial
  failing = first_failing (removing w.rows caller names)

  parent_is : reached w.rows root parents ≡ d
  parent_is = walked-reached w.rows caller 0 0 root parents d way.leads

  front_is : front names ≡ parents
  front_is = ap front way.names_are ∙ front-last parents name

  -- the tests of the step to the name decide, or those behind it
  to_step : (at : ℕ) → at ≡ length parents → (r : Result ℕ Denial) → r ≡ stepped w.rows caller 0 at d name
      → failing ≡ after_walk r (first_failing (removing_tests caller 0 (attrs_at w.rows d)
      (attrs_at w.rows (reached w.rows root names)) at))
  to_step at same r is =
      let tests = own_tests w.rows caller names in
      let count = way.count in
      let seat : 0 + length parents ≡ at = omega (arith, same) in
      to_walk w.rows caller names (omega (arith, count))
      ∙ ap (λ x. after_walk x (first_failing tests))
      (ap (walked w.rows caller 0 0 root) way.names_are
      ∙ walked_last w.rows caller 0 0 root parents name
      ∙ ap (λ x. and_then x (λ n. stepped w.rows caller 0 (0 + length parents) n name)) way.leads
      ∙ ap (λ k. stepped w.rows caller 0 k d name) seat
      ∙ sym is)
      ∙ ap (λ m. after_walk r (first_failing (removing_tests caller 0 (attrs_at w.rows m)
      (attrs_at w.rows (reached w.rows root names)) (length (front names))))) (make_object way)
      ∙ ap (λ k. after_walk r (first_failing (removing_tests caller 0 (attrs_at w.rows d)
      (attrs_at w.rows (reached w.rows root names)) k))) (ap (λ (ys : List (List ℕ)). length ys) front_is
      ∙ sym same)

  module _ (at : ℕ) (same : at ≡ length parents) where
    -- where the step to the name is denied, the call is
    pub remove_stopped : (denial : Denial) → Err denial ≡ stepped w.rows caller 0 at d name → failing ≡ Some denial
    remove_stopped denial is = to_step at same (Err denial) is

    module _ (n : ℕ) (b : Attrs) (steps : Ok n ≡ stepped w.rows caller 0 at d name) (shown : Some b
        ≡ shown_attrs c n) where
      hangs : child w.rows d name ≡ Some n
      hangs = stepped-child w.rows caller 0 at d name n steps

      row_is : reached w.rows root names ≡ n
      row_is = ap (reached w.rows root) way.names_are ∙ reached-last w.rows root parents name
          ∙ ap (λ m. next w.rows m name) parent_is ∙ ap (λ o. unwrap_or o 0) hangs

      -- where it is taken, the tests of the directory and of the row decide
      pub remove_decided : failing ≡ first_failing (removing_tests caller 0 a b at)
      remove_decided =
          to_step at same (Ok n) steps
          ∙ ap (λ m. first_failing (removing_tests caller 0 (attrs_at w.rows d) (attrs_at w.rows m) at)) row_is
          ∙ ap (λ x. first_failing (removing_tests caller 0 x (attrs_at w.rows n) at))
          (attrs_reads c w way.shows d a way.shown)
          ∙ ap (λ x. first_failing (removing_tests caller 0 a x at)) (attrs_reads c w way.shows n b shown)

      -- the row and its directory
      pub removal_is : IsRemoval c w.rows names
          (record { dir = record { number = d; attrs = a }; file = record { number = n; attrs = b } })
      removal_is = record {
        some = omega (arith, way.count);
        object = make_object way;
        row = row_is;
        hangs = ap (child w.rows d) (last_is way) ∙ hangs;
        shown_dir = way.shown;
        shown_file = shown;
        directory = sym (directory_reads c w way.shows d a way.shown)
            ∙ stepped-directory w.rows caller 0 at d name n steps;
      }
