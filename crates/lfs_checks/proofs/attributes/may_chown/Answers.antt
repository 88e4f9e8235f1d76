use Rattle.std.proofs.Common.{Err, ap, ◌∙◌}
use Rattle.std.specs.Prelude.{not}
use Rattle.std.proofs.lemmas.Result.{err_from_is_err_and}
use Rattle.lfs_checks.proofs.TestLemmas.{ask_stops, ask_passes, none_denies, some_denies}
use Rattle.lfs_checks.proofs.attributes.may_chown.Goals as goal

pub returns-in_err-ask : goal.returns-in_err-ask
returns-in_err-ask c =
    let p = err_from_is_err_and c.from_residual.result c.from_residual.ensures.1 in
    ask_stops _ _ _ (ap not c.immutable.ensures) c.in_err-ask.ensures (p.1 ∙ ap Err p.2)

pub returns-in_err-ask-2 : goal.returns-in_err-ask-2
returns-in_err-ask-2 c =
    let p = err_from_is_err_and c.from_residual-in_err-ask-2.result c.from_residual-in_err-ask-2.ensures.1 in
    ask_passes _ _ (ap not c.immutable.ensures) c.in_ok-ask.ensures
    (ask_stops _ _ _ (ap not c.append_only.ensures) c.in_err-ask-2.ensures (p.1 ∙ ap Err p.2))

pub returns-in-None : goal.returns-in-None
returns-in-None c =
    ask_passes _ _ (ap not c.immutable.ensures) c.in_ok-ask.ensures
    (ask_passes _ _ (ap not c.append_only.ensures) c.in_ok-ask-2.ensures
    (none_denies _ _ _ tt c.in-None.ensures))

pub returns-in-Some : goal.returns-in-Some
returns-in-Some c =
    ask_passes _ _ (ap not c.immutable.ensures) c.in_ok-ask.ensures
    (ask_passes _ _ (ap not c.append_only.ensures) c.in_ok-ask-2.ensures
    (some_denies _ _ c.in-Some.rule 0 c.args.at tt c.in-Some.ensures))
