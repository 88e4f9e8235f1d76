use Rattle.lfs_laws.proofs.LockedLemmas.{names_stay, no_name_comes}
use Rattle.lfs_laws.proofs.laws.locked_names_stay.Goals as goal

pub returns : goal.returns
returns c = record { stay = names_stay; come = no_name_comes }
