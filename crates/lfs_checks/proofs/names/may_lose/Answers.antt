use Rattle.std.proofs.Common.{Err, sym, ap, ◌∙◌}
use Rattle.std.specs.Prelude.{not, [], ◌∷◌}
use Rattle.std.proofs.lemmas.Result.{err_from_is_err_and}
use Rattle.lfs_types.specs.declared.rule.Rule.TheVariants.{IsNotAppendOnly}
use Rattle.lfs_rules.specs.Locks.{is_append_only}
use Rattle.lfs_model.specs.Rules.{asks, entering_tests}
use Rattle.lfs_model.proofs.Deciding.{judged_behind, judged_front}
use Rattle.lfs_checks.proofs.TestLemmas.{ask_ends}
use Rattle.lfs_checks.proofs.names.may_lose.Goals as goal

pub returns-in_err-may_enter : goal.returns-in_err-may_enter
returns-in_err-may_enter c =
    let p = err_from_is_err_and c.from_residual.result c.from_residual.ensures.1 in
    p.1 ∙ ap Err p.2
    ∙ sym (judged_front (entering_tests c.args.cred.now c.args.site.path c.args.dir.now c.args.site.at)
    (asks (not (is_append_only c.args.dir.now)) IsNotAppendOnly c.args.site.path c.args.site.at ∷ [])
    c.in_err-may_enter.field-0.0 (sym c.in_err-may_enter.ensures))

pub returns : goal.returns
returns c =
    ask_ends _ (ap not c.append_only.ensures) c.ask.ensures
    ∙ sym (judged_behind (entering_tests c.args.cred.now c.args.site.path c.args.dir.now c.args.site.at)
    (asks (not (is_append_only c.args.dir.now)) IsNotAppendOnly c.args.site.path c.args.site.at ∷ [])
    (sym c.in_ok-may_enter.ensures))
