use Rattle.lfs_laws.proofs.LawFlags.{system_immutable_stays, system_append_only_grows}
use Rattle.lfs_laws.proofs.SystemNames.{no_system_name_comes, system_names_stay, system_path_stays}
use Rattle.lfs_laws.proofs.laws.system_locks_stay.Goals as goal

pub returns : goal.returns
returns c = record {
  immutable = system_immutable_stays;
  append_only = system_append_only_grows;
  names = system_names_stay;
  come = no_system_name_comes;
  path = system_path_stays;
}
