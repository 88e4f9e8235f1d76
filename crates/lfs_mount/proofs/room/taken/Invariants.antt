use Rattle.std.proofs.Common.{◌≡◌}
use Rattle.lfs_mount.specs.Room.{taken_below}
use Rattle.lfs_mount.proofs.room.taken.Given as goal

abbrev pub invariant-loop-number : goal.invariant-loop-number
invariant-loop-number g l = record {
  is : l.count ≡ taken_below (g.F.FileStore.state l.store).content l.number;
}
