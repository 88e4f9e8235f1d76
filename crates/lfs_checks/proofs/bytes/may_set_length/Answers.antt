use Rattle.std.proofs.Common.{◌≡◌, false, [], ◌∷◌, Err, rules, sym, ap, ◌∙◌}
use Rattle.std.specs.Prelude.{nat_le}
use Rattle.std.proofs.lemmas.Result.{err_from_is_err_and}
use Rattle.lfs_types.specs.declared.rule.Rule.TheVariants.{FitsFile}
use Rattle.lfs_model.specs.Rules.{asks, change_tests, judged}
use Rattle.lfs_model.proofs.Deciding.{judged_behind, judged_front}
use Rattle.lfs_types.specs.declared.limits.TheConstants.{FILE_BYTES}
use Rattle.lfs_checks.proofs.bytes.may_set_length.Goals as goal

pub returns-in_err-may_change : goal.returns-in_err-may_change
returns-in_err-may_change c =
    let p = err_from_is_err_and c.from_residual.result c.from_residual.ensures.1 in
    p.1 ∙ ap Err p.2
    ∙ sym (judged_front (change_tests c.args.cred.now false c.args.file.now c.args.at)
    (asks (nat_le c.args.len FILE_BYTES) FitsFile 0 c.args.at ∷ []) c.in_err-may_change.field-0.0
    (sym c.in_err-may_change.ensures))

pub returns : goal.returns
returns c =
    let behind = judged_behind (change_tests c.args.cred.now false c.args.file.now c.args.at)
    (asks (nat_le c.args.len FILE_BYTES) FitsFile 0 c.args.at ∷ []) (sym c.in_ok-may_change.ensures) in
    let fits : c.ask.result ≡ judged (asks (nat_le c.args.len FILE_BYTES) FitsFile 0 c.args.at ∷ []) = search rules in
    fits ∙ sym behind
