use Rattle.std.proofs.Common.{◌∙◌}
use Rattle.lfs_inodes.specs.Reading.{fields_of}
use Rattle.lfs_reach.proofs.BlockLemmas.{file_address-direct, file_address-double, file_address-single}
use Rattle.lfs_reach.proofs.blocks.file_address.Goals as goal

pub returns-then-n-lt-DIRECT_COUNT : goal.returns-then-n-lt-DIRECT_COUNT
returns-then-n-lt-DIRECT_COUNT c = c.root_address.ensures
    ∙ file_address-direct c.args.memory.now (fields_of c.args.inode.now) c.args.n c.if-n-lt-DIRECT_COUNT.true

pub returns-then-n-lt-SINGLE_END : goal.returns-then-n-lt-SINGLE_END
returns-then-n-lt-SINGLE_END c = c.entry.ensures.read
    ∙ file_address-single c.args.memory.now (fields_of c.args.inode.now) c.args.n _ _ c.if-n-lt-DIRECT_COUNT.false
    c.if-n-lt-SINGLE_END.true c.root_address-then-n-lt-SINGLE_END.ensures c.bytes_at-single.ensures

pub returns : goal.returns
returns c = c.entry-3.ensures.read
    ∙ file_address-double c.args.memory.now (fields_of c.args.inode.now) c.args.n _ _ _ _ c.if-n-lt-DIRECT_COUNT.false
    c.if-n-lt-SINGLE_END.false c.root_address-2.ensures c.bytes_at-double.ensures c.entry-2.ensures.read
    c.bytes_at-child.ensures
