use Rattle.std.proofs.Common.{◌≡◌, ◌-◌, replicate}
use Rattle.lfs_types.specs.Blocks.{zero_block}
use Rattle.lfs_segments.specs.Memory.{written}
use Rattle.lfs_segments.proofs.blocks.clear.Given as goal

-- zeros so far, and all else stays
abbrev pub invariant-loop-place : goal.invariant-loop-place
invariant-loop-place l = l.blocks.items ≡ written l.fn.blocks.items l.start (replicate (l.place - l.start) zero_block)
