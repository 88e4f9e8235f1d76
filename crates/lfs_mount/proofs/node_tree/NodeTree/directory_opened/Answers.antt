use Rattle.std.proofs.Common.{inr, refl}
use Rattle.lfs_mount.proofs.node_tree.NodeTree.directory_opened.Goals as goal

pub returns-in-Err-clause-told : goal.returns-in-Err-clause-told
returns-in-Err-clause-told g c =
    inr (record {
      refused = record { error = c.in-Err.ensures.lacks; none = c.in-Err.ensures.none };
      same = refl;
    })
