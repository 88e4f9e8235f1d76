use Rattle.lfs_laws.proofs.PlaceWords.{set_ids_go}
use Rattle.lfs_laws.proofs.SetIdLemmas.{set_ids_are_fresh}
use Rattle.lfs_laws.proofs.laws.set_ids_by_bits.Goals as goal

pub returns : goal.returns
returns c = record { go = set_ids_go; fresh = set_ids_are_fresh }
