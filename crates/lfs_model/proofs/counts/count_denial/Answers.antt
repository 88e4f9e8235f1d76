use Rattle.lfs_model.proofs.CountLemmas.{denial_counted}
use Rattle.lfs_model.proofs.counts.count_denial.Goals as goal

pub returns : goal.returns
returns c = denial_counted c.args.numbers.now c.place.result c.args.rule c.told-numbers c.place.ensures
