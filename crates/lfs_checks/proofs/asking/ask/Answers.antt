use Rattle.std.proofs.Common.{[], ◌∷◌, Err, sym, ap, ◌∙◌}
use Rattle.lfs_model.specs.Rules.{asks, judged}
use Rattle.lfs_checks.proofs.asking.ask.Goals as goal

pub returns-then-met : goal.returns-then-met
returns-then-met c = ap (λ b. judged (asks b c.args.rule c.args.site.path c.args.site.at ∷ [])) (sym c.if-met.true)

pub returns-else-met : goal.returns-else-met
returns-else-met c = ap Err c.denial.ensures
    ∙ ap (λ b. judged (asks b c.args.rule c.args.site.path c.args.site.at ∷ [])) (sym c.if-met.false)
