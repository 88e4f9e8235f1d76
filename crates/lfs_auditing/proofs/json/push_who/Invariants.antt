use Rattle.lfs_auditing.specs.Json.{ArePlain}
use Rattle.lfs_auditing.proofs.json.push_who.Given as goal

abbrev pub invariant-loop-named : goal.invariant-loop-named
invariant-loop-named l = ArePlain l.fn.values.items → ArePlain l.values.items
