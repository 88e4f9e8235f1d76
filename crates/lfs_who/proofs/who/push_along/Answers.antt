use Rattle.std.proofs.Common.{List, ap, ◌∙◌, ◌++◌}
use Rattle.lfs_model.specs.Rules.{first_failing}
use Rattle.lfs_explain.specs.Tables.{known_path, table_by}
use Rattle.lfs_who.specs.Conditions.{all_posed}
use Rattle.lfs_who.specs.declared.condition.Question.{Question}
use Rattle.lfs_who.proofs.ActLemmas.{call_decided, on_ok}
use Rattle.lfs_who.proofs.who.push_along.Goals as goal

pub returns : goal.returns
returns c =
    on_ok c.push_call.result
    (λ asked w tree at first second who init.
    ap first_failing (asked who init)
    ∙ ap (λ (qs : List Question). first_failing (all_posed who qs
    ++ table_by c.args.level who c.args.request.now (known_path c.args.explanation.now.first)
    (known_path c.args.explanation.now.second))) c.requires
    ∙ call_decided w tree who c.args.level at c.args.explanation.now.first c.args.explanation.now.second
    c.args.request.now first second)
    c.push_call.ensures
