use Rattle.std.proofs.Common.{◌≡◌, ◌*◌, ◌≤◌}
use Rattle.std.specs.FinMap as map
use Rattle.lfs_bmap.specs.Counting.{total}
use Rattle.lfs_logstore.specs.States.{state_of}
use Rattle.lfs_share.specs.Share.{units_of_file}
use Rattle.lfs_share.proofs.growing.taken.Given as goal

-- the numbers so far
abbrev pub invariant-loop-ino : goal.invariant-loop-ino
invariant-loop-ino l = record {
  counted : l.units ≡ total (λ n. units_of_file (map.get (state_of l.store).content n)) l.ino;
  few : l.units ≤ 70000 * l.ino;
}
