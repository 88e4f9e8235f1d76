use Rattle.std.proofs.Common.{◌≡◌, ◌*◌, ◌≤◌}
use Rattle.lfs_bmap.specs.Counting.{total}
use Rattle.lfs_segwrite.specs.Gaining.{eight_blocks, greatest}
use Rattle.lfs_segwrite.proofs.gaining.cost_by_eights.Given as goal

-- the eights so far
abbrev pub invariant-loop-k : goal.invariant-loop-k
invariant-loop-k l = record {
  blocks : l.cost.blocks ≡ total (eight_blocks l.infos) l.k;
  widest : l.cost.widest ≡ greatest (eight_blocks l.infos) l.k;
  few : l.cost.blocks ≤ 27 * l.k;
  narrow : l.cost.widest ≤ 27;
}
