use Rattle.std.proofs.Common.{ℕ, inl}
use Rattle.std.specs.Prelude.{option_copied}
use Rattle.lfs_nodes.specs.Maps.{node_at}
use Rattle.lfs_nodes.specs.Reads.{hang_in}
use Rattle.lfs_fuse_calls.proofs.paths.names_of.Goals as goal

pub returns-in-Err-clause-lacks : goal.returns-in-Err-clause-lacks
returns-in-Err-clause-lacks c =
    inl (c.error_of_node.ensures.lacks (λ (q : ℕ). hang_in (node_at c.args.nodes.now.table q)) c.args.node (option_copied c.args.name)
    c.in-Err.ensures.way)
