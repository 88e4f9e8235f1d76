use Rattle.std.proofs.Common.{sym, ◌∙◌}
use Rattle.lfs_types.specs.Blocks.{zero_block}
use Rattle.lfs_fsck.proofs.FlushedLemmas.{via_block, via_zeros}
use Rattle.lfs_fsck.proofs.blocks.bytes_at.Goals as goal

pub returns-then-address-eq0 : goal.returns-then-address-eq0
unfolding zero_block
returns-then-address-eq0 c = λ number way. sym
    (via_zeros c.args.log.now number way c.args.address c.if-address-eq0.true)

pub returns-else-address-eq0 : goal.returns-else-address-eq0
returns-else-address-eq0 c = λ number way. c.block.ensures.block
    ∙ sym (via_block c.args.log.now number way c.args.address c.if-address-eq0.false)
