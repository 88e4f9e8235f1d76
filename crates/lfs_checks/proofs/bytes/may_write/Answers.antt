use Rattle.std.proofs.Common.{[], ◌∷◌, ◌+◌, Err, sym, ap, ◌∙◌}
use Rattle.std.specs.Prelude.{nat_le}
use Rattle.std.proofs.lemmas.Result.{err_from_is_err_and}
use Rattle.lfs_types.specs.declared.rule.Rule.TheVariants.{FitsFile}
use Rattle.lfs_model.specs.Rules.{asks, change_tests, is_end, judged, start_in}
use Rattle.lfs_model.proofs.Deciding.{judged_front}
use Rattle.lfs_types.specs.declared.limits.TheConstants.{FILE_BYTES}
use Rattle.lfs_checks.proofs.bytes.may_write.Goals as goal

pub returns-in_err-may_change : goal.returns-in_err-may_change
returns-in_err-may_change c =
    let p = err_from_is_err_and c.from_residual.result c.from_residual.ensures.1 in
    p.1 ∙ ap Err p.2
    ∙ sym (judged_front (change_tests c.args.cred.now (is_end c.args.place) c.args.file.now c.args.at)
    (asks (nat_le (start_in c.args.place c.args.file.now.size + c.args.count) FILE_BYTES) FitsFile 0 c.args.at
    ∷ []) c.in_err-may_change.field-0.0
    (ap (λ e. judged (change_tests c.args.cred.now e c.args.file.now c.args.at)) (sym c.is_end.ensures)
    ∙ sym c.in_err-may_change.ensures))
