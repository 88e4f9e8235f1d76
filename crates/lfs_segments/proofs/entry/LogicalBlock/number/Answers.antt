use Rattle.std.proofs.Common.{sym, ap}
use Rattle.lfs_segments.specs.Entry.{block_number}
use Rattle.lfs_segments.proofs.entry.LogicalBlock.number.Goals as goal

pub returns-in-Single : goal.returns-in-Single
returns-in-Single c = sym (ap block_number c.in-Single.is)
