use Rattle.std.proofs.Common.{◌≡◌, replicate}
use Rattle.lfs_types.specs.Blocks.{zero_block}
use Rattle.lfs_file_disk.proofs.opening.blank.Given as goal

-- so many zeros were written
abbrev pub invariant-loop-address : goal.invariant-loop-address
invariant-loop-address g l = l.blocks.items ≡ replicate l.address zero_block
