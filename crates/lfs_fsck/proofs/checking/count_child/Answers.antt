use Rattle.std.proofs.Common.{◌+◌, sym, ◌∙◌, arith}
use Rattle.lfs_fsck.proofs.KeyLemmas.{count_childless, lie_below}
use Rattle.lfs_fsck.proofs.checking.count_child.Goals as goal

pub address_of-requires-clause-inside : goal.address_of-requires-clause-inside
address_of-requires-clause-inside c =
    let least = c.requires.parts.laid_out.at_least in
    let child = c.requires.child in
    lie_below c.args.log.now c.args.inode.now.number (3 + c.args.child)
    (λ code low. c.requires.so_far.here code (omega arith)) (omega arith)

pub returns-then-address_of-eq0-clause-ok : goal.returns-then-address_of-eq0-clause-ok
returns-then-address_of-eq0-clause-ok c =
    count_childless c.args.log.now c.args.inode.now.number c.args.child c.args.counts.now.items c.requires.child
    (sym c.address_of.ensures ∙ c.if-address_of-eq0.true) c.requires.so_far
