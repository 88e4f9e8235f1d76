use Rattle.lfs_auditing.specs.Json.{ArePlain}
use Rattle.lfs_auditing.proofs.json.groups_value.Given as goal

abbrev pub invariant-loop-group : goal.invariant-loop-group
invariant-loop-group l = ArePlain l.values.items
