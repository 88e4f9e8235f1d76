use Rattle.std.proofs.Common.{map, take}
use Rattle.lfs_model.specs.declared.steps.StepAnswer.TheVariants.{User}
use Rattle.lfs_sinks.specs.Refusals.{AddsUp}
use Rattle.lfs_sinks.proofs.refusals.Refusals.add_answers.Given as goal

abbrev pub invariant-loop-answer : goal.invariant-loop-answer
invariant-loop-answer l = AddsUp l.fn.self l.self (map User (take l.answer-index l.answers))
