use Rattle.std.proofs.Common.{rules}
use Rattle.lfs_settle.proofs.stepping.after_call.Goals as goal

pub returns : goal.returns
returns c = search rules
