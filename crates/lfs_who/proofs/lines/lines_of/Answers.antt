use Rattle.std.proofs.Common.{◌∷◌, [], ap, ◌∙◌, ◌++◌}
use Rattle.lfs_model.specs.Rules.{first_failing}
use Rattle.lfs_who.specs.Conditions.{all_posed}
use Rattle.lfs_who.specs.Lines.{Told}
use Rattle.lfs_who.proofs.GroupLemmas.{allowed, ends_here, goes_on}
use Rattle.lfs_who.proofs.lines.lines_of.Goals as goal

pub returns-then-branch : goal.returns-then-branch
returns-then-branch c who mine =
    ends_here who c.args.user c.args.questions.now c.loop-question.question-index c.question-item.result
    c.loop-question.lines.items c.split.new.lines.items
    c.loop-question.groups.inside.items c.loop-question.groups.outside.items c.split.new.self.inside.items
    c.split.new.self.outside.items
    c.outcome.result c.known-outcome.result c.in_ok-split.field-0 (first_failing (all_posed who c.args.questions.now)
    ∷ [])
    c.loop-question-test.true c.question-item.is mine (c.outcome.ensures who)
    (c.known-outcome.ensures who) c.in_ok-split.ensures (c.loop-question.invariant who mine) c.if-branch.true

pub loop-question-preserved : goal.loop-question-preserved
loop-question-preserved c who mine =
    goes_on who c.args.user c.args.questions.now c.loop-question.question-index c.question-item.result
    c.loop-question.lines.items c.split.new.lines.items
    c.loop-question.groups.inside.items c.loop-question.groups.outside.items c.split.new.self.inside.items
    c.split.new.self.outside.items
    c.outcome.result c.known-outcome.result c.in_ok-split.field-0 (first_failing (all_posed who c.args.questions.now)
    ∷ [])
    c.loop-question-test.true c.question-item.is mine (c.outcome.ensures who)
    (c.known-outcome.ensures who) c.in_ok-split.ensures (c.loop-question.invariant who mine) c.if-branch.false

pub returns : goal.returns
returns c who mine =
    allowed who c.args.questions.now c.loop-question.question-index c.loop-question.lines.items c.push.new.self.items
    c.loop-question.groups.inside.items c.loop-question.groups.outside.items
    (first_failing (all_posed who c.args.questions.now) ∷ [])
    c.loop-question-test.false (c.in_ok-push.ensures.items
    ∙ ap (λ (l : Told). c.loop-question.lines.items ++ l ∷ []) c.new-3.ensures) (c.loop-question.invariant who mine)
