use Rattle.lfs_laws.proofs.LeadOnLemmas.{path_leads_on, path_leads_through}
use Rattle.lfs_laws.proofs.laws.path_leads_on.Goals as goal

pub returns : goal.returns
returns c = record { step = path_leads_on; run = path_leads_through }
