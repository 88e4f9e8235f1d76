use Rattle.std.proofs.Common.{sym, ap, ◌++◌, ◌∙◌}
use Rattle.std.proofs.lemmas.Result.{on_ok_weaker}
use Rattle.lfs_types.specs.declared.request.Request.{Request}
use Rattle.lfs_model.specs.Rules.{chflags_tests}
use Rattle.lfs_explain.specs.Asked.{asked}
use Rattle.lfs_explain.specs.Tables.{own_tests}
use Rattle.lfs_explain.proofs.Askings.{append_same}
use Rattle.lfs_explain.proofs.telling.push_own.Goals as goal

pub returns-in-Chflags : goal.returns-in-Chflags
returns-in-Chflags c =
    on_ok_weaker c.push-in-Chflags.result
    (λ e. ap asked e
    ∙ append_same c.args.checks.now.items c.chflags.result
    (chflags_tests c.args.call.cred.now c.args.call.level c.in-Chflags.flags c.args.file.now c.args.at) c.chflags.ensures
    ∙ ap (λ (r : Request). asked (c.args.checks.now.items
    ++ own_tests c.args.call.level c.args.call.cred.now r c.args.file.now c.args.at)) (sym c.in-Chflags.is))
    c.push-in-Chflags.ensures
