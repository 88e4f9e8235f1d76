use Rattle.std.proofs.Common.{List, ap, ◌∙◌, ◌∷◌, []}
use Rattle.lfs_model.specs.Rules.{first_failing}
use Rattle.lfs_who.specs.Conditions.{all_posed}
use Rattle.lfs_who.specs.declared.condition.Question.{Question}
use Rattle.lfs_who.proofs.who.who_along.Goals as goal

pub returns : goal.returns
returns c w tree at first second who init =
    c.in_ok-who.ensures who
    ∙ ap (λ d. d ∷ [])
    (ap (λ (qs : List Question). first_failing (all_posed who qs)) c.deref.ensures.value
    ∙ c.in_ok-push_along.ensures w tree at first second who init)
