use Rattle.std.proofs.Common.{rules, arith}
use Rattle.std.proofs.lemmas.Grind.{common_steps}
use Rattle.lfs_ifile.proofs.tables.Ifile.format.Goals as goal

pub returns-clause-ok : goal.returns-clause-ok
returns-clause-ok c = search rules

pub returns-in_err-vec-clause-too_many : goal.returns-in_err-vec-clause-too_many
returns-in_err-vec-clause-too_many c = search rules

pub returns-in_err-vec-2-clause-too_many : goal.returns-in_err-vec-2-clause-too_many
returns-in_err-vec-2-clause-too_many c = search rules

pub returns-in_err-vec-3-clause-too_many : goal.returns-in_err-vec-3-clause-too_many
returns-in_err-vec-3-clause-too_many c = search rules

pub invariant_of-result : goal.invariant_of-result
invariant_of-result c = grind (arith, common_steps)

pub returns-clause-formed : goal.returns-clause-formed
returns-clause-formed c = grind (arith, common_steps)

pub returns-clause-too_many : goal.returns-clause-too_many
returns-clause-too_many c = search rules
