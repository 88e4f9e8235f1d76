use Rattle.std.proofs.Common.{refl}
use Rattle.lfs_segments.specs.Memory.{label}
use Rattle.lfs_rescue.proofs.label.label.Goals as goal

pub returns : goal.returns
unfolding label
returns c = rw c.write_u32-3.ensures (rw c.write_u32-2.ensures (rw c.write_u32.ensures refl))
