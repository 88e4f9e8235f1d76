use Rattle.lfs_laws.proofs.LeadLemmas.{leads_by_names, shows_by_names}
use Rattle.lfs_laws.proofs.laws.paths_by_names.Goals as goal

pub returns : goal.returns
returns c = record { leads = leads_by_names; shows = shows_by_names }
