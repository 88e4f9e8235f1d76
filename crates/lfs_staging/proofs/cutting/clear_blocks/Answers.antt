use Rattle.std.proofs.Common.{◌≡◌, subst, arith}
use Rattle.lfs_staging.specs.Cutting.{ClearsBlocks}
use Rattle.lfs_staging.proofs.ClearingLemmas.{clears_more, clears_none, may_clear}
use Rattle.lfs_staging.proofs.cutting.clear_blocks.Goals as goal

pub loop-index-init : goal.loop-index-init
loop-index-init c = clears_none c.args.parts.now c.args.ino c.args.first c.args.end c.requires.may

pub clear_block-requires : goal.clear_block-requires
clear_block-requires c =
    may_clear c.args.parts.now c.loop-index.parts c.args.ino c.args.first c.loop-index.index c.args.end c.requires.may
    c.loop-index.invariant
    (omega (arith, c.loop-index.auto.index)) (omega (arith, c.loop-index-test.true))

pub loop-index-preserved : goal.loop-index-preserved
loop-index-preserved c =
    let bounded = c.requires.may.bounded in
    let low = c.loop-index-test.true in
    clears_more c.args.parts.now c.loop-index.parts c.clear_block.new.parts c.args.ino c.args.first c.loop-index.index
    (omega (arith, c.loop-index.auto.index)) (omega arith) c.loop-index.invariant c.clear_block.ensures

pub returns : goal.returns
returns c =
    let ends : c.loop-index.index ≡ c.args.end =
    omega (arith, c.loop-index-test.false, c.loop-index.auto.index, c.requires.ordered) in
    subst (λ n. ClearsBlocks c.args.ino c.args.first n c.args.parts.now c.loop-index.parts) ends c.loop-index.invariant
