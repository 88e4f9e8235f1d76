use Rattle.std.proofs.Common.{◌≡◌}
use Rattle.lfs_cleaner.specs.Passing.{calls_left}
use Rattle.lfs_mount.specs.Runs.{GoesOn}
use Rattle.lfs_mount.proofs.mount.Mount.pass.Given as goal

abbrev pub invariant-loop-call : goal.invariant-loop-call
invariant-loop-call g l = record {
  content : (g.F.FileStore.state l.self.tree.volume.store).content
      ≡ (g.F.FileStore.state l.fn.self.tree.volume.store).content;
  level : l.self.tree.volume.level ≡ l.fn.self.tree.volume.level;
  journal : GoesOn g.F.FileStore.state l.fn.self.tree.volume l.self.tree.volume;
  nodes : l.self.tree.nodes ≡ l.fn.self.tree.nodes;
  beside : l.self.beside ≡ l.fn.self.beside;
  sizes : l.self.sizes ≡ l.fn.self.sizes;
}

abbrev pub decreases-loop-call : goal.decreases-loop-call
decreases-loop-call g l = calls_left l.pass
