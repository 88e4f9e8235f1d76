use Rattle.std.proofs.Common.{refl}
use Rattle.lfs_types.proofs.rule.Rule.error.Goals as goal

pub returns-in-FitsFile : goal.returns-in-FitsFile
returns-in-FitsFile c = rw c.in-FitsFile.is refl
