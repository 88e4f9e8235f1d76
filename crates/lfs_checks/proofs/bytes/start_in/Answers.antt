use Rattle.std.proofs.Common.{sym, ap}
use Rattle.lfs_model.specs.Rules.{start_in}
use Rattle.lfs_checks.proofs.bytes.start_in.Goals as goal

pub returns-in-At : goal.returns-in-At
returns-in-At c = sym (ap (λ place. start_in place c.args.size) c.in-At.is)

pub returns-in-End : goal.returns-in-End
returns-in-End c = sym (ap (λ place. start_in place c.args.size) c.in-End.is)
