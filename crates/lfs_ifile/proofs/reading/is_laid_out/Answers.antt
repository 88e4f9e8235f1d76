use Rattle.std.proofs.Common.{rules}
use Rattle.lfs_ifile.proofs.reading.is_laid_out.Goals as goal

pub returns : goal.returns
returns c = search rules
