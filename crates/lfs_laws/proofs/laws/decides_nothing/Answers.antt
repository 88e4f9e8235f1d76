use Rattle.lfs_laws.proofs.IdleLemmas.{callers_alike, levels_alike, marks_alike}
use Rattle.lfs_laws.proofs.laws.decides_nothing.Goals as goal

pub returns : goal.returns
returns c = record { levels = levels_alike; callers = callers_alike; marks = marks_alike }
