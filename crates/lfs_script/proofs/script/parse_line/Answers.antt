use Rattle.std.proofs.Common.{rules}
use Rattle.lfs_script.proofs.PlanLemmas.{said_there}
use Rattle.lfs_script.proofs.script.parse_line.Goals as goal

pub returns-clause-said : goal.returns-clause-said
returns-clause-said c = search (rules, said_there)

pub returns-clause-printable : goal.returns-clause-printable
returns-clause-printable c = search rules
