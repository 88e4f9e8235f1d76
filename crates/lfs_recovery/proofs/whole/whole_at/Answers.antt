use Rattle.std.proofs.Common.{true, false}
use Rattle.lfs_recovery.proofs.WholeLemmas.{whole_at-none, whole_at-told}
use Rattle.lfs_recovery.proofs.whole.whole_at.Goals as goal

pub returns-then-is_next : goal.returns-then-is_next
returns-then-is_next c = whole_at-told c.args.memory.now c.args.address c.args.above _ _ true c.block.ensures.block
    c.in-Some.ensures.told c.if-is_next.ensures

pub returns-else-is_next : goal.returns-else-is_next
returns-else-is_next c = whole_at-told c.args.memory.now c.args.address c.args.above _ _ false c.block.ensures.block
    c.in-Some.ensures.told c.if-is_next.ensures

pub returns-in-None : goal.returns-in-None
returns-in-None c = whole_at-none c.args.memory.now c.args.address c.args.above _ c.block.ensures.block c.in-None.ensures.told
