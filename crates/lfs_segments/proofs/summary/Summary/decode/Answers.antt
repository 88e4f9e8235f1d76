use Rattle.std.proofs.Common.{arith}
use Rattle.lfs_segments.proofs.ReadingLemmas.{entries_read}
use Rattle.lfs_segments.proofs.summary.Summary.decode.Goals as goal

pub returns-clause-entries : goal.returns-clause-entries
returns-clause-entries c = entries_read c.args.block.now _ (omega arith) c.parse.ensures.found c.parse.ensures.only
