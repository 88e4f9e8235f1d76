use Rattle.lfs_laws.proofs.PlaceWords.{opens_alone, opens_insecure, opens_with_root}
use Rattle.lfs_laws.proofs.laws.opens_by_number.Goals as goal

pub returns : goal.returns
returns c = record { root = opens_with_root; alone = opens_alone; level = opens_insecure }
