use Rattle.std.proofs.Common.{rules}
use Rattle.lfs_cache.proofs.cache.next_frame.Goals as goal

pub unreachable-requires : goal.unreachable-requires
unreachable-requires c = search rules

pub returns-in-Some-oldest-2 : goal.returns-in-Some-oldest-2
returns-in-Some-oldest-2 c = search rules
