use Rattle.lfs_auditing.specs.Json.{ArePlain}
use Rattle.lfs_auditing.proofs.audit.Audit.acts_value.Given as goal

abbrev pub invariant-loop-act : goal.invariant-loop-act
invariant-loop-act l = ArePlain l.values.items
