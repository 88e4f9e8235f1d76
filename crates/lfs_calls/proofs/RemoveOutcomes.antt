-- What a call that removes a file, or an empty directory, comes to, for `removing::remove`. An Unlink and a Rmdir
-- differ in their last tests alone; what is asked of either here (that it changes files, shows no more than that it is
-- done, and takes the row away) is a case for each kind, which the code doesn't tell apart.
use Rattle.std.proofs.Common.{◌≡◌, ℕ, List, None, refl}
use Rattle.lfs_types.specs.Caller.{Caller}
use Rattle.lfs_types.specs.StoreStates.{StoreState}
use Rattle.lfs_types.specs.Tree.{World, Content, root}
use Rattle.lfs_types.specs.declared.answer.Served.TheVariants.{Done}
use Rattle.lfs_types.specs.declared.attrs.Kind.{Kind}
use Rattle.lfs_types.specs.declared.attrs.Kind.TheVariants.{File as Regular, Directory}
use Rattle.lfs_model.specs.World.{Rows}
use Rattle.lfs_model.specs.Rules.{decide, reached}
use Rattle.lfs_model.specs.Effects.{answer_of, effect, without_row}
use Rattle.lfs_model.specs.Steps.{IsChanging}
use Rattle.lfs_calls.specs.Calls.{LooksOn}
use Rattle.lfs_calls.specs.Entries.{LeavesEntries}
use Rattle.lfs_calls.specs.Removes.{ClosesUp, removal_request}
use Rattle.lfs_calls.proofs.CallLemmas.{IsToServe}

module _ (path : List (List ℕ)) where
  -- such a call changes files
  pub remove_changing : (kind : Kind) → IsChanging (removal_request kind path)
  remove_changing Regular = tt
  remove_changing Directory = tt

  -- and does not look alone
  pub remove_looks : (old new : StoreState) (kind : Kind) → LooksOn (removal_request kind path) old new
  remove_looks old new Regular = tt
  remove_looks old new Directory = tt

  -- it leaves the entries where its kinds do
  pub remove_entries : (old new : Content) (rows : Rows) (kind : Kind) → ClosesUp old new rows path
      → LeavesEntries (removal_request kind path) old new rows
  remove_entries old new rows Regular closes = closes
  remove_entries old new rows Directory closes = closes

  -- it shows no more than that it is done
  pub remove_answer : (w : World) (kind : Kind) → Done ≡ answer_of w (removal_request kind path)
  remove_answer w Regular = refl
  remove_answer w Directory = refl

  -- the world after it
  pub remove_after : (numbers : ℕ) (w : World) (caller : Caller) (kind : Kind)
      → without_row (reached w.rows root path) w ≡ effect numbers w caller (removal_request kind path)
  remove_after numbers w caller Regular = refl
  remove_after numbers w caller Directory = refl

  -- where the rules allow it, it is to be served
  pub remove_serves : (s : StoreState) (w : World) (caller : Caller) (kind : Kind)
      → decide w caller (removal_request kind path) ≡ None → IsToServe s caller (removal_request kind path) w
  remove_serves s w caller Regular allowed = record { allowed = allowed; numbered = λ h. h; roomy = λ h. h }
  remove_serves s w caller Directory allowed = record { allowed = allowed; numbered = λ h. h; roomy = λ h. h }
