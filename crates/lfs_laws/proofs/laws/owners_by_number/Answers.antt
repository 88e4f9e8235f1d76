use Rattle.lfs_laws.proofs.WordLemmas.{group_by_owner, mode_by_owner}
use Rattle.lfs_laws.proofs.laws.owners_by_number.Goals as goal

pub returns : goal.returns
returns c = record { mode = mode_by_owner; group = group_by_owner }
