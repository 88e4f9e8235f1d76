use Rattle.std.proofs.Common.{◌+◌, ◌-◌, ◌≤◌, length, arith}
use Rattle.lfs_cache.specs.Index.{count_taken}
use Rattle.lfs_cache.proofs.Places.{taken_run}
use Rattle.lfs_cache.proofs.index.free_place.Goals as goal

pub unreachable-requires : goal.unreachable-requires
unreachable-requires c =
    let ps = c.args.places.now in let s = c.args.start in
    let run : length ps - s ≤ count_taken ps =
    taken_run ps s (length ps - s) (omega arith)
    (λ e low. c.loop-place.invariant (s + e) (omega arith) (omega arith)) in
    omega arith
