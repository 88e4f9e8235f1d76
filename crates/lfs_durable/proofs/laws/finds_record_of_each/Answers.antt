use Rattle.lfs_durable.proofs.PlaceLemmas.{finds_record_of_each}
use Rattle.lfs_durable.proofs.laws.finds_record_of_each.Goals as goal

pub returns : goal.returns
returns c = finds_record_of_each
