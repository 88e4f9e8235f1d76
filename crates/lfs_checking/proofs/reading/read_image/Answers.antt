use Rattle.std.proofs.Common.{arith}
use Rattle.std.proofs.lemmas.Grind.{common_steps}
use Rattle.lfs_checking.proofs.ReadLemmas.{where_known}
use Rattle.lfs_checking.proofs.reading.read_image.Goals as goal

pub returns-in_default-clause-whole : goal.returns-in_default-clause-whole
returns-in_default-clause-whole g c = where_known (g.R.Read.remaining c.args.reader.now) (λ bytes. tt)

pub returns-then-count-len-clause-fault : goal.returns-then-count-len-clause-fault
returns-then-count-len-clause-fault g c = grind (arith, common_steps)
