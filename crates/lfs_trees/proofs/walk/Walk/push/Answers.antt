use Rattle.std.proofs.Common.{sym, subst, set, true}
use Rattle.lfs_trees.specs.Marks.{AreMarked}
use Rattle.lfs_trees.proofs.Numbers.{marked_more}
use Rattle.lfs_trees.proofs.walk.Walk.push.Goals as goal

pub invariant_of-self-2-clause-marked : goal.invariant_of-self-2-clause-marked
invariant_of-self-2-clause-marked c =
    let walk = c.args.self.now in
    subst (λ ns. AreMarked ns (set walk.marks.items c.args.number true)) (sym c.in_ok-push.ensures.items)
    (marked_more walk.order.items walk.marks.items c.args.number walk.marked c.requires.among c.requires.new_number)
