use Rattle.std.proofs.Common.{rules}
use Rattle.lfs_segments.proofs.entry.LogicalBlock.from_number.Goals as goal

pub returns-in_default-clause-found : goal.returns-in_default-clause-found
returns-in_default-clause-found c = search rules
