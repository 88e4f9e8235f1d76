use Rattle.std.proofs.Common.{List, ◌≡◌}
use Rattle.std.proofs.lemmas.Result.{on_ok_weaker}
use Rattle.lfs_model.specs.Counts.{counts_of}
use Rattle.lfs_model.specs.declared.journal.Entry.{Entry}
use Rattle.lfs_model.specs.declared.steps.StepAnswer.{StepAnswer}
use Rattle.lfs_sinks.specs.Refusals.{tally_of}
use Rattle.lfs_sinks.proofs.RefusalLemmas.{tally_reported}
use Rattle.lfs_sinks.proofs.totals.push_report.Goals as goal

pub returns : goal.returns
returns c =
    on_ok_weaker c.push_refusals.result
    (λ grown (handed kept : List Entry) (answers : List StepAnswer) (is : c.args.tally.now ≡ tally_of handed answers)
    (counted : c.args.counts.now ≡ counts_of kept).
    tally_reported c.args.out.now.items c.push_sums.new.out.items c.push_refusals.new.out.items c.args.tally.now
    c.args.counts.now handed kept answers is counted c.in_ok-push_sums.ensures grown)
    c.push_refusals.ensures
