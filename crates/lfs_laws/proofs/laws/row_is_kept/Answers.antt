use Rattle.lfs_laws.proofs.KeptLemmas.{row_is_kept}
use Rattle.lfs_laws.proofs.laws.row_is_kept.Goals as goal

pub returns : goal.returns
returns c = row_is_kept
