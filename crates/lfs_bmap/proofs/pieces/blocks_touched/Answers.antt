-- The byte that a block has of those from `start` on: the block's first, or `start`.
use Rattle.std.proofs.Common.{◌*◌, max, arith}
use Rattle.lfs_bmap.proofs.pieces.blocks_touched.Goals as goal

pub returns-clause-only : goal.returns-clause-only
returns-clause-only c = λ n low high. record {
  byte = max c.args.start (512 * n);
  from = omega arith;
  below = omega arith;
  there = omega arith;
}
