use Rattle.std.proofs.Common.{◌+◌, Err, sym, ap, ◌∙◌}
use Rattle.std.proofs.lemmas.Result.{err_from_is_err_and}
use Rattle.lfs_model.proofs.Deciding.{judged_behind, judged_front}
use Rattle.lfs_checks.specs.Parts.{losing_tests, lost_tests}
use Rattle.lfs_checks.proofs.names.may_remove.Goals as goal

pub returns-in_err-may_lose : goal.returns-in_err-may_lose
returns-in_err-may_lose c =
    let p = err_from_is_err_and c.from_residual.result c.from_residual.ensures.1 in
    p.1 ∙ ap Err p.2
    ∙ sym (judged_front (losing_tests c.args.cred.now c.args.site.path c.args.dir.now c.args.site.at)
    (lost_tests c.args.cred.now c.args.site.path c.args.dir.now c.args.file.now (c.args.site.at + 1))
    c.in_err-may_lose.field-0.0 (sym c.in_err-may_lose.ensures))

pub returns : goal.returns
returns c =
    c.may_be_lost.ensures
    ∙ sym (judged_behind (losing_tests c.args.cred.now c.args.site.path c.args.dir.now c.args.site.at)
    (lost_tests c.args.cred.now c.args.site.path c.args.dir.now c.args.file.now (c.args.site.at + 1))
    (sym c.in_ok-may_lose.ensures))
