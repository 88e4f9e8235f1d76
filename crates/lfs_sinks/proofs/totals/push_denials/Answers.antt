use Rattle.std.proofs.Common.{refl}
use Rattle.lfs_print.proofs.ReportLemmas.{denials_all, denials_more}
use Rattle.lfs_sinks.proofs.totals.push_denials.Goals as goal

pub loop-place-preserved : goal.loop-place-preserved
loop-place-preserved c =
    denials_more c.args.out.now.items c.loop-place.out.items c.push_denial.new.out.items c.args.rules.now
    c.args.numbers.now c.loop-place.place _ _
    c.requires c.loop-place-test.true refl c.loop-place.invariant c.in_ok-push_denial.ensures

pub returns : goal.returns
returns c =
    denials_all c.args.out.now.items c.loop-place.out.items c.args.rules.now c.args.numbers.now c.loop-place.place
    c.loop-place-test.false c.loop-place.invariant
