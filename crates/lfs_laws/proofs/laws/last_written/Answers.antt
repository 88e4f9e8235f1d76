use Rattle.lfs_laws.proofs.LawBytes.{last_written, last_written_since_opening}
use Rattle.lfs_laws.proofs.laws.last_written.Goals as goal

pub returns : goal.returns
returns c = record { last = last_written; opening = last_written_since_opening }
