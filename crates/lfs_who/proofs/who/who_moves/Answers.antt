use Rattle.std.proofs.Common.{List, ap, ◌∙◌, ◌∷◌, ◌++◌, []}
use Rattle.lfs_model.specs.Rules.{first_failing}
use Rattle.lfs_explain.specs.Tables.{known_path}
use Rattle.lfs_who.specs.Acts.{leaving_by}
use Rattle.lfs_who.specs.Conditions.{all_posed}
use Rattle.lfs_who.specs.declared.condition.Question.{Question}
use Rattle.lfs_who.proofs.ActLemmas.{move_decided}
use Rattle.lfs_who.proofs.who.who_moves.Goals as goal

pub returns : goal.returns
returns c w names tree t who =
    c.in_ok-who.ensures who
    ∙ ap (λ d. d ∷ [])
    (ap (λ (qs : List Question). first_failing (all_posed who qs)) c.deref.ensures.value
    ∙ ap first_failing (c.in_ok-push_leaving.ensures who)
    ∙ ap (λ (qs : List Question). first_failing (all_posed who qs
    ++ leaving_by who (known_path c.args.path.now))) c.new-questions.ensures.items
    ∙ move_decided w tree who c.args.path.now names t)
