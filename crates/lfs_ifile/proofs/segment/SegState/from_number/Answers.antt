use Rattle.std.proofs.Common.{rules}
use Rattle.lfs_ifile.proofs.segment.SegState.from_number.Goals as goal

pub returns-in_default-clause-some : goal.returns-in_default-clause-some
returns-in_default-clause-some c = search rules
