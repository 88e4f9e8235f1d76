use Rattle.std.proofs.Common.{◌≡◌}
use Rattle.lfs_mount.specs.Runs.{GoesOn}
use Rattle.lfs_mount.proofs.mount.Mount.sweep.Given as goal

abbrev pub invariant-loop-segment : goal.invariant-loop-segment
invariant-loop-segment g l = record {
  content : (g.F.FileStore.state l.self.tree.volume.store).content
      ≡ (g.F.FileStore.state l.fn.self.tree.volume.store).content;
  level : l.self.tree.volume.level ≡ l.fn.self.tree.volume.level;
  journal : GoesOn g.F.FileStore.state l.fn.self.tree.volume l.self.tree.volume;
  nodes : l.self.tree.nodes ≡ l.fn.self.tree.nodes;
  beside : l.self.beside ≡ l.fn.self.beside;
  sizes : l.self.sizes ≡ l.fn.self.sizes;
}
