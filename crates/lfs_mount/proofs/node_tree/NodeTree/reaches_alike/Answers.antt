use Rattle.lfs_nodes.specs.Nodes.{known}
use Rattle.lfs_mount.specs.Groups.{RowGrantsAlike}
use Rattle.lfs_mount.proofs.AlikeLemmas.{at_node}
use Rattle.lfs_mount.proofs.node_tree.NodeTree.reaches_alike.Goals as goal

pub returns : goal.returns
returns g c is =
    let node = c.args.header.now.node in
    let uid = c.args.header.now.uid in
    let nodes = known c.args.self.now.nodes in record {
      path = c.in-Ok.path;
      leads = c.in-Ok.ensures.path;
      ends = c.ends_alike.ensures c.if-not-ends_alike.false;
      grants = λ from begins are.
          let first = c.node_grants_alike.ensures c.if-not-node_grants_alike.false from begins in
          let second = c.node_grants_alike-2.ensures is from begins in (
            at_node nodes node c.in-Ok.path c.in-Ok.ensures.row _ first.0 are
                (λ n. RowGrantsAlike _ n uid c.args.first) first.1,
            at_node nodes node c.in-Ok.path c.in-Ok.ensures.row _ second.0 are
                (λ n. RowGrantsAlike _ n uid c.args.second) second.1,
          );
    }
