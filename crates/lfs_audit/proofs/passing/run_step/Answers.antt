use Rattle.std.proofs.Common.{rules}
use Rattle.lfs_audit.proofs.passing.run_step.Goals as goal

pub returns-in-Pass : goal.returns-in-Pass
returns-in-Pass g c = search rules
