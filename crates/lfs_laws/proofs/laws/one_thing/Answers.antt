use Rattle.lfs_laws.proofs.OneThingLemmas.{one_thing}
use Rattle.lfs_laws.proofs.laws.one_thing.Goals as goal

pub returns : goal.returns
returns c = one_thing
