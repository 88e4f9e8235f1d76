use Rattle.std.proofs.Common.{Err, subst}
use Rattle.lfs_nodes.specs.Ways.{NamesDown}
use Rattle.lfs_fuse_calls.proofs.PathLemmas.{long_lacks}
use Rattle.lfs_fuse_calls.proofs.paths.error_of_node.Goals as goal

pub returns-in-Long-clause-lacks : goal.returns-in-Long-clause-lacks
returns-in-Long-clause-lacks c hangs node name way =
    long_lacks hangs node name (subst (λ f. NamesDown hangs node (Err f)) c.in-Long.is way)
