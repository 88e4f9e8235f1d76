use Rattle.std.proofs.Common.{Err, ap, ◌∙◌}
use Rattle.std.specs.Prelude.{not}
use Rattle.std.proofs.lemmas.Result.{err_from_is_err_and}
use Rattle.lfs_checks.proofs.TestLemmas.{ask_stops, ask_passes, ask_ends}
use Rattle.lfs_checks.proofs.attributes.may_chmod.Goals as goal

pub returns-in_err-ask : goal.returns-in_err-ask
returns-in_err-ask c =
    let p = err_from_is_err_and c.from_residual.result c.from_residual.ensures.1 in
    ask_stops _ _ _ (ap not c.immutable.ensures) c.in_err-ask.ensures (p.1 ∙ ap Err p.2)

pub returns-in_err-ask-2 : goal.returns-in_err-ask-2
returns-in_err-ask-2 c =
    let p = err_from_is_err_and c.from_residual-in_err-ask-2.result c.from_residual-in_err-ask-2.ensures.1 in
    ask_passes _ _ (ap not c.immutable.ensures) c.in_ok-ask.ensures
    (ask_stops _ _ _ (ap not c.append_only.ensures) c.in_err-ask-2.ensures (p.1 ∙ ap Err p.2))

pub returns : goal.returns
returns c =
    ask_passes _ _ (ap not c.immutable.ensures) c.in_ok-ask.ensures
    (ask_passes _ _ (ap not c.append_only.ensures) c.in_ok-ask-2.ensures
    (ask_ends _ c.is_owner.ensures c.ask-3.ensures))
