use Rattle.lfs_nodes.specs.Nodes.{place_at}
use Rattle.lfs_mount.proofs.MovingLemmas.{moves_node}
use Rattle.lfs_mount.proofs.node_tree.NodeTree.moved.Goals as goal

pub returns-clause-moves : goal.returns-clause-moves
returns-clause-moves g c there =
    moves_node (place_at c.args.renaming.from.0 c.args.renaming.name) (place_at c.args.renaming.to.0 c.args.renaming.new_name)
    c.args.self.now.nodes c.moved.new.self c.moved.ensures.next c.moved.ensures.stays
    (λ apart. c.moved.ensures.moved apart there)
