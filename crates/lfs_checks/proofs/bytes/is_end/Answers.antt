use Rattle.std.proofs.Common.{sym, ap}
use Rattle.lfs_model.specs.Rules.{is_end}
use Rattle.lfs_checks.proofs.bytes.is_end.Goals as goal

pub returns-in-At : goal.returns-in-At
returns-in-At c = sym (ap is_end c.in-At.is)

pub returns-in-End : goal.returns-in-End
returns-in-End c = sym (ap is_end c.in-End.is)
