use Rattle.lfs_laws.proofs.RowLaws.{reflagged_law}
use Rattle.lfs_laws.proofs.laws.reflagged.Goals as goal

pub returns : goal.returns
returns c = reflagged_law
