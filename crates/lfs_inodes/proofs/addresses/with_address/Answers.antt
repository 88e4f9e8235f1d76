use Rattle.std.proofs.Common.{arith}
use Rattle.std.proofs.lemmas.Grind.{common_steps}
use Rattle.lfs_inodes.proofs.Cells.{address_of-child, address_of-single, numbers-one}
use Rattle.lfs_inodes.proofs.addresses.with_address.Goals as goal

-- a direct block
pub returns-then-n-lt-DIRECT_COUNT-clause-only_single : goal.returns-then-n-lt-DIRECT_COUNT-clause-only_single
returns-then-n-lt-DIRECT_COUNT-clause-only_single c = λ block whole bytes same.
    numbers-one 128 block _ bytes (λ k. c.fits-single k) whole c.told-single same

pub returns-then-n-lt-DIRECT_COUNT-clause-only_child : goal.returns-then-n-lt-DIRECT_COUNT-clause-only_child
returns-then-n-lt-DIRECT_COUNT-clause-only_child c = λ block whole bytes same.
    numbers-one 128 block _ bytes (λ k. c.fits-child k) whole c.told-child same

pub returns-then-n-lt-DIRECT_COUNT-clause-reads : goal.returns-then-n-lt-DIRECT_COUNT-clause-reads
returns-then-n-lt-DIRECT_COUNT-clause-reads c = grind (arith, common_steps)

-- one under the single indirect block
pub returns-then-n-lt-SINGLE_END-clause-only_child : goal.returns-then-n-lt-SINGLE_END-clause-only_child
returns-then-n-lt-SINGLE_END-clause-only_child c = λ block whole bytes same.
    numbers-one 128 block _ bytes (λ k. c.fits-child k) whole c.told-child same

pub returns-then-n-lt-SINGLE_END-clause-reads : goal.returns-then-n-lt-SINGLE_END-clause-reads
returns-then-n-lt-SINGLE_END-clause-reads c = λ m lt shared.
    address_of-single c.args.inode.now c.args.single.now c.with_entry.result c.args.child.now c.args.n c.args.address m
    c.if-n-lt-DIRECT_COUNT.false c.if-n-lt-SINGLE_END.true c.with_entry.ensures.cells

-- one under a child of the double one
pub returns-else-n-lt-SINGLE_END-clause-only_single : goal.returns-else-n-lt-SINGLE_END-clause-only_single
returns-else-n-lt-SINGLE_END-clause-only_single c = λ block whole bytes same.
    numbers-one 128 block _ bytes (λ k. c.fits-single k) whole c.told-single same

pub returns-else-n-lt-SINGLE_END-clause-reads : goal.returns-else-n-lt-SINGLE_END-clause-reads
returns-else-n-lt-SINGLE_END-clause-reads c = λ m lt shared.
    address_of-child c.args.inode.now c.args.single.now c.args.child.now c.with_entry-else-n-lt-SINGLE_END.result
    c.args.n c.args.address m
    c.if-n-lt-SINGLE_END.false shared c.with_entry-else-n-lt-SINGLE_END.ensures.cells
