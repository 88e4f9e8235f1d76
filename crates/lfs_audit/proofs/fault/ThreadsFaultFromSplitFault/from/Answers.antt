use Rattle.std.proofs.Common.{refl}
use Rattle.lfs_audit.proofs.fault.ThreadsFaultFromSplitFault.from.Goals as goal

pub returns-in-CleanerLine : goal.returns-in-CleanerLine
returns-in-CleanerLine c = rw c.in-CleanerLine.is refl
