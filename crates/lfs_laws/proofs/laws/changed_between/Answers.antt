use Rattle.lfs_laws.proofs.BetweenLemmas.{bytes_between, flags_between, gone_between, level_between, made_between}
use Rattle.lfs_laws.proofs.BetweenLemmas.{mode_between, owner_between, place_between, set_id_between}
use Rattle.lfs_laws.proofs.laws.changed_between.Goals as goal

pub returns : goal.returns
returns c = record {
  bytes = bytes_between;
  place = place_between;
  mode = mode_between;
  set_id = set_id_between;
  owner = owner_between;
  flags = flags_between;
  level = level_between;
  made = made_between;
  gone = gone_between;
}
