use Rattle.std.proofs.Common.{List, ap, ◌∙◌, ◌∷◌, ◌++◌, []}
use Rattle.lfs_model.specs.Rules.{first_failing, searching_tests}
use Rattle.lfs_explain.specs.Tables.{known_path, reaching_by}
use Rattle.lfs_who.specs.Conditions.{all_posed}
use Rattle.lfs_who.specs.declared.condition.Question.{Question}
use Rattle.lfs_who.proofs.ActLemmas.{search_decided}
use Rattle.lfs_who.proofs.who.who_searches.Goals as goal

pub returns : goal.returns
returns c w names tree t who =
    c.in_ok-who.ensures who
    ∙ ap (λ d. d ∷ [])
    (ap (λ (qs : List Question). first_failing (all_posed who qs)) c.deref.ensures.value
    ∙ ap first_failing (c.in_ok-push_search.ensures who)
    ∙ ap (λ (qs : List Question). first_failing (all_posed who qs
    ++ reaching_by who (searching_tests who 0) (known_path c.args.path.now))) c.new-questions.ensures.items
    ∙ search_decided w tree who c.args.path.now names t)
