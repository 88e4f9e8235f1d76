use Rattle.std.proofs.Common.{sym, ap, ◌++◌, ◌∙◌}
use Rattle.std.proofs.lemmas.Result.{on_ok_weaker}
use Rattle.lfs_types.specs.declared.request.Request.{Request}
use Rattle.lfs_model.specs.Rules.{level_tests}
use Rattle.lfs_explain.specs.Asked.{asked}
use Rattle.lfs_explain.specs.Tables.{known_path, table_by}
use Rattle.lfs_explain.proofs.Askings.{append_same}
use Rattle.lfs_explain.proofs.telling.push_table.Goals as goal

pub returns-in-SetLevel : goal.returns-in-SetLevel
returns-in-SetLevel c =
    on_ok_weaker c.push-in-SetLevel.result
    (λ e. ap asked e
    ∙ append_same c.args.checks.now.items c.set_level.result
    (level_tests c.args.call.cred.now c.args.call.level c.in-SetLevel.new) c.set_level.ensures
    ∙ ap (λ (r : Request). asked (c.args.checks.now.items
    ++ table_by c.args.call.level c.args.call.cred.now r (known_path c.args.first.now) (known_path c.args.second.now)))
    (sym c.in-SetLevel.is))
    c.push-in-SetLevel.ensures
