use Rattle.std.proofs.Common.{refl}
use Rattle.lfs_types.proofs.fault.FormatFaultFromAllocError.from.Goals as goal

pub returns : goal.returns
returns c = refl
