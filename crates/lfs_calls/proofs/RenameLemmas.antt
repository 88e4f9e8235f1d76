-- What a Rename may be answered: `rename_kept`, `rename_not_arrived` and `to_moving`, for `judge_rename`. The rules ask
-- three lists of tests one behind the other, of the old name, of the way to the new one, and of the new place; the
-- first list that isn't met denies, and each is asked only if those before it are met.
use Rattle.std.proofs.Common.{◌≡◌, ℕ, List, None, Some, ◌∙◌}
use Rattle.lfs_types.specs.Caller.{Caller}
use Rattle.lfs_types.specs.Tree.{World, root}
use Rattle.lfs_types.specs.declared.request.Request.TheVariants.{Rename}
use Rattle.lfs_types.specs.declared.rule.Denial.{Denial}
use Rattle.lfs_model.specs.World.{child}
use Rattle.lfs_model.specs.Rules.{arriving, decide, first_failing, front, last, moving_tests, reached, removing}
use Rattle.lfs_model.proofs.Deciding.{failing-front, failing-behind}

module _ (w : World) (caller : Caller) (from to : List (List ℕ)) where
  -- where the old name may not be taken away, the call is denied
  pub rename_kept : (denial : Denial) → first_failing (removing w.rows caller from) ≡ Some denial
      → decide w caller (Rename from to) ≡ Some denial
  rename_kept denial h = failing-front (removing w.rows caller from) _ denial h

  module _ (removes : first_failing (removing w.rows caller from) ≡ None) where
    -- where the new name may not be looked for, it is too
    pub rename_not_arrived : (denial : Denial) → first_failing (arriving w.rows caller to) ≡ Some denial
        → decide w caller (Rename from to) ≡ Some denial
    rename_not_arrived denial h = failing-behind (removing w.rows caller from) _ removes
        ∙ failing-front (arriving w.rows caller to) _ denial h

    -- where it may be, the tests of the place decide
    pub to_moving : first_failing (arriving w.rows caller to) ≡ None
        → decide w caller (Rename from to) ≡ first_failing
        (moving_tests w.rows caller from to (child w.rows (reached w.rows root (front to)) (last to)))
    to_moving arrives = failing-behind (removing w.rows caller from) _ removes
        ∙ failing-behind (arriving w.rows caller to) _ arrives
