use Rattle.std.proofs.Common.{subst}
use Rattle.lfs_fuse_calls.specs.Paths.{IsPathOf}
use Rattle.lfs_mount.specs.Handled.{hangs_in}
use Rattle.lfs_mount.proofs.node_tree.NodeTree.looks_alike.Goals as goal

pub returns-in-Ok : goal.returns-in-Ok
returns-in-Ok g c is = record {
  path = c.in-Ok.path;
  leads = subst (λ name. IsPathOf (hangs_in c.args.self.now.nodes) c.args.header.now.node name c.in-Ok.path)
      c.named_in.ensures c.in-Ok.ensures.path;
  alike = c.ends_alike.ensures is;
}
