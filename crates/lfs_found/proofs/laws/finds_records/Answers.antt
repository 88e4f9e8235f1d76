use Rattle.lfs_found.proofs.NamedLemmas.{finds_records}
use Rattle.lfs_found.proofs.laws.finds_records.Goals as goal

pub returns : goal.returns
returns c = finds_records
