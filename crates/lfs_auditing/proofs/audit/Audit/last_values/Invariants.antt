use Rattle.lfs_auditing.specs.Json.{ArePlain}
use Rattle.lfs_auditing.proofs.audit.Audit.last_values.Given as goal

abbrev pub invariant-loop-number : goal.invariant-loop-number
invariant-loop-number l = ArePlain l.values.items
