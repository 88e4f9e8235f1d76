use Rattle.std.proofs.Common.{rules}
use Rattle.lfs_volume.proofs.cleaning.reclaimed.Goals as goal

pub returns-in-Ok-clause-answered : goal.returns-in-Ok-clause-answered
returns-in-Ok-clause-answered g c = (search rules, c.in-Ok.ensures.given)
