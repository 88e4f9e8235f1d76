use Rattle.std.proofs.Common.{ℕ, ◌<◌, None}
use Rattle.std.specs.Prelude.{IfSome, slice_index_or}
use Rattle.lfs_fuse_wire.specs.Views.{view}
use Rattle.lfs_opens.specs.Opens.{node_of}
use Rattle.lfs_mount.specs.Leaving.{IsLeaving}
use Rattle.lfs_mount.proofs.leaving.leaving.Given as goal

abbrev pub invariant-loop-slot : goal.invariant-loop-slot
invariant-loop-slot l = (s : ℕ) → s < l.slot
    → IfSome (node_of (slice_index_or l.opens.files.items s None))
    (λ id. IsLeaving l.nodes l.node (view l.message) id → ⊥)
