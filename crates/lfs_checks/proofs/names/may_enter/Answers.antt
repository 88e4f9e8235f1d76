use Rattle.std.proofs.Common.{Err, ap, ◌∙◌}
use Rattle.std.specs.Prelude.{not}
use Rattle.std.proofs.lemmas.Result.{err_from_is_err_and}
use Rattle.lfs_checks.proofs.TestLemmas.{ask_stops, ask_passes, ask_ends}
use Rattle.lfs_checks.proofs.names.may_enter.Goals as goal

pub returns-in_err-ask : goal.returns-in_err-ask
returns-in_err-ask c =
    let p = err_from_is_err_and c.from_residual.result c.from_residual.ensures.1 in
    ask_stops _ _ _ (ap not c.immutable.ensures) c.in_err-ask.ensures (p.1 ∙ ap Err p.2)

pub returns : goal.returns
returns c =
    ask_passes _ _ (ap not c.immutable.ensures) c.in_ok-ask.ensures
    (ask_ends _ c.grants.ensures c.ask-2.ensures)
