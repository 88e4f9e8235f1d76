use Rattle.lfs_print.proofs.PrintLemmas.{name_more, names_all}
use Rattle.lfs_print.proofs.print.push_names.Goals as goal

pub loop-name-preserved : goal.loop-name-preserved
loop-name-preserved c =
    name_more c.args.out.now.items c.loop-name.out.items c.push_name.new.out.items c.args.names.now
    c.loop-name.name-index c.name-item.result
    c.loop-name-test.true c.name-item.is c.loop-name.invariant c.in_ok-push_name.ensures

pub returns : goal.returns
returns c = names_all c.args.out.now.items c.loop-name.out.items c.args.names.now c.loop-name.name-index
    c.loop-name-test.false c.loop-name.invariant
