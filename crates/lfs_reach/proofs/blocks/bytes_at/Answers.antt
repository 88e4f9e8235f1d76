use Rattle.std.proofs.Common.{◌∙◌, arith}
use Rattle.lfs_reach.proofs.BlockLemmas.{bytes_at-here, bytes_at-none, bytes_at-past}
use Rattle.lfs_reach.proofs.blocks.bytes_at.Goals as goal

pub returns-then-address-eq0 : goal.returns-then-address-eq0
returns-then-address-eq0 c = bytes_at-none c.args.memory.now c.args.address c.if-address-eq0.true

pub returns-then-address-segments : goal.returns-then-address-segments
returns-then-address-segments c =
    let segments = c.segments.ensures.segments in
    let past = c.if-address-segments.true in
    bytes_at-past c.args.memory.now c.args.address c.if-address-eq0.false (omega arith)

pub returns : goal.returns
returns c =
    let segments = c.segments.ensures.segments in
    let below = c.if-address-segments.false in
    c.block.ensures.block ∙ bytes_at-here c.args.memory.now c.args.address c.if-address-eq0.false (omega arith)
