use Rattle.lfs_auditing.specs.Json.{ArePlain}
use Rattle.lfs_auditing.proofs.json.push_lines.Given as goal

abbrev pub invariant-loop-line : goal.invariant-loop-line
invariant-loop-line l = ArePlain l.fn.values.items → ArePlain l.values.items
