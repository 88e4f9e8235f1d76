use Rattle.std.proofs.Common.{arith, refl}
use Rattle.lfs_types.proofs.NameLemmas.{takes_on}
use Rattle.lfs_types.proofs.path.names_of.Goals as goal

pub loop-names-init : goal.loop-names-init
loop-names-init c = rw c.new-names.ensures.items (record { all = refl; faults = refl; bounded = omega arith }, tt)

pub loop-names-preserved : goal.loop-names-preserved
loop-names-preserved c =
    takes_on c.args.text.now c.loop-names.rest.now c.in-Some.behind.now c.loop-names.names.items
    c.take_name.new.names.items c.loop-names.component c.loop-names.invariant
    (rw c.in-Some.is at c.in_ok-take_name.ensures)
