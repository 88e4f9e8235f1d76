use Rattle.std.proofs.Common.{rules}
use Rattle.lfs_script.proofs.plan.Draft.add.Goals as goal

pub invariant_of-self : goal.invariant_of-self
invariant_of-self c = search rules

pub returns-in-Session : goal.returns-in-Session
returns-in-Session c = search rules
