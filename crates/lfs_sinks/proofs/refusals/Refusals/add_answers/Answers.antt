use Rattle.lfs_sinks.proofs.RefusalLemmas.{adds_all, adds_next, adds_none}
use Rattle.lfs_sinks.proofs.refusals.Refusals.add_answers.Goals as goal

pub loop-answer-init : goal.loop-answer-init
loop-answer-init c = adds_none c.args.self.now

pub loop-answer-preserved : goal.loop-answer-preserved
loop-answer-preserved c =
    adds_next c.args.self.now c.loop-answer.self c.add_answer.new.self c.args.answers.now c.loop-answer.answer-index
    c.answer-item.result c.loop-answer-test.true (cc) c.loop-answer.invariant c.add_answer.ensures

pub returns : goal.returns
returns c = adds_all c.args.self.now c.loop-answer.self c.args.answers.now c.loop-answer.answer-index
    c.loop-answer-test.false c.loop-answer.invariant
