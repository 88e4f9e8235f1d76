use Rattle.std.proofs.Common.{arith}
use Rattle.std.proofs.lemmas.Grind.{common_steps}
use Rattle.lfs_cache.proofs.cache.Cache.new.Goals as goal

pub returns-clause-contents : goal.returns-clause-contents
returns-clause-contents c = grind (arith, common_steps)
