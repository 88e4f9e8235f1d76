use Rattle.std.proofs.Common.{◌≡◌, ◌++◌, ◌+◌, ◌-◌, length, drop}
use Rattle.lfs_volume.specs.Journals.{AtPresent}
use Rattle.lfs_mount.specs.Leaving.{IsLooked, bytes_at}
use Rattle.lfs_mount.proofs.leaving.all_shown.Given as goal

abbrev pub invariant-loop-volume : goal.invariant-loop-volume
invariant-loop-volume g l = record {
  looked : IsLooked g.F.FileStore.state l.fn.volume l.volume;
  part : AtPresent g.F.FileStore.state l.fn.volume (λ w. l.bytes.items
      ++ drop (length l.bytes.items) (bytes_at w l.path) ≡ bytes_at w l.path);
}

abbrev pub decreases-loop-volume : goal.decreases-loop-volume
decreases-loop-volume g l = l.most + 1 - length l.bytes.items
