use Rattle.std.proofs.Common.{length, arith}
use Rattle.lfs_staging.proofs.PuttingLemmas.{put_all, put_codes, put_more, put_none, takes_first, takes_more}
use Rattle.lfs_staging.proofs.PuttingLemmas.{only_first, only_more, takes_room}
use Rattle.lfs_staging.proofs.changing.put_blocks.Goals as goal

pub loop-index-init : goal.loop-index-init
loop-index-init c =
    record {
      puts = put_none c.args.parts.now c.args.inode.now c.args.off c.args.bytes.now _ c.requires.may
          (λ n touched. let low = (c.blocks_touched-touched.ensures.touched n touched).0 in omega arith);
      takes = takes_first c.args.parts.now c.args.inode.now.number (put_codes c.args.off (length c.args.bytes.now));
      only = only_first c.args.parts.now c.args.inode.now.number c.args.off (length c.args.bytes.now);
    }

pub put_block-requires-clause-may : goal.put_block-requires-clause-may
put_block-requires-clause-may c = c.loop-index.invariant.puts.again

pub put_block-requires-clause-room : goal.put_block-requires-clause-room
put_block-requires-clause-room c =
    let ends = c.blocks_touched-touched.ensures.some (omega (arith, c.requires.some)) in
    let low = c.loop-index-test.true in
    let from = c.loop-index.auto.index in
    takes_room c.args.parts.now c.loop-index.parts c.args.inode.now.number c.args.off
    (length c.args.bytes.now) c.loop-index.index
    (omega (arith, low, ends.1, c.requires.below)) (omega (arith, ends.0))
    (omega (arith, ends.1)) c.requires.some c.requires.room c.loop-index.invariant.puts.log
    c.loop-index.invariant.takes

pub put_block-requires-clause-within : goal.put_block-requires-clause-within
put_block-requires-clause-within c =
    let ends = c.blocks_touched-touched.ensures.some (omega (arith, c.requires.some)) in
    let low = c.loop-index-test.true in
    omega (arith, ends.1, c.requires.below)

pub loop-index-preserved : goal.loop-index-preserved
loop-index-preserved c =
    let ends = c.blocks_touched-touched.ensures.some (omega (arith, c.requires.some)) in
    let low = c.loop-index-test.true in
    let from = c.loop-index.auto.index in
    record {
      puts = put_more c.args.parts.now c.loop-index.parts c.put_block.new.parts c.args.inode.now c.args.off
          c.args.bytes.now c.loop-index.index
          c.loop-index.invariant.puts c.put_block.ensures;
      takes = takes_more c.args.parts.now c.loop-index.parts c.put_block.new.parts c.args.inode.now.number c.args.off
          (length c.args.bytes.now) c.loop-index.index
          c.loop-index.invariant.takes c.loop-index.invariant.puts.log c.put_block.ensures.takes
          (omega (arith, low, ends.1, c.requires.below)) (omega (arith, ends.0))
          (omega (arith, ends.1)) c.requires.some;
      only = only_more c.args.parts.now c.loop-index.parts c.put_block.new.parts c.args.inode.now.number c.args.off
          (length c.args.bytes.now) c.loop-index.index
          c.loop-index.invariant.only c.loop-index.invariant.puts.log c.put_block.ensures.takes
          (c.blocks_touched-touched.ensures.only c.loop-index.index (omega arith) (omega arith));
    }

pub returns : goal.returns
returns c =
    let ends = c.blocks_touched-touched.ensures.some (omega (arith, c.requires.some)) in
    let high = c.loop-index-test.false in
    let to = c.loop-index.auto.index-end in
    put_all c.args.parts.now c.loop-index.parts c.args.inode.now c.args.off c.args.bytes.now c.loop-index.index
    c.requires.may c.loop-index.invariant.puts
    (λ n touched. let under = (c.blocks_touched-touched.ensures.touched n touched).1 in omega arith)
    c.loop-index.invariant.takes c.loop-index.invariant.only
