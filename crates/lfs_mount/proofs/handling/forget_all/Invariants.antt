use Rattle.lfs_model.specs.World.{Rows}
use Rattle.lfs_nodes.specs.Nodes.{AreNodes, known}
use Rattle.lfs_nodes.specs.Staying.{IdsStay}
use Rattle.lfs_mount.specs.Forgetting.{AreForgotten}
use Rattle.lfs_mount.proofs.handling.forget_all.Given as goal

abbrev pub invariant-loop-index : goal.invariant-loop-index
invariant-loop-index l = record {
  forgotten : AreForgotten l.forgets.bytes.now l.index l.fn.nodes l.nodes;
  nodes : (rows : Rows) → AreNodes rows (known l.fn.nodes) → AreNodes rows (known l.nodes);
  ids : IdsStay l.fn.nodes l.nodes;
}
