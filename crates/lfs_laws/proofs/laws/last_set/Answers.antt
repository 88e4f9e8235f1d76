use Rattle.lfs_laws.proofs.LastSets.{all_set_since_opening, flags_last_set, group_last_set, kind_last_set}
use Rattle.lfs_laws.proofs.LastSets.{owner_last_set, permissions_last_set, place_last_set, set_ids_last_set}
use Rattle.lfs_laws.proofs.LastSets.{size_last_set}
use Rattle.lfs_laws.proofs.laws.last_set.Goals as goal

pub returns : goal.returns
returns c = record {
  kind = kind_last_set;
  size = size_last_set;
  owner = owner_last_set;
  group = group_last_set;
  permissions = permissions_last_set;
  set_ids = set_ids_last_set;
  flags = flags_last_set;
  place = place_last_set;
  opening = all_set_since_opening;
}
