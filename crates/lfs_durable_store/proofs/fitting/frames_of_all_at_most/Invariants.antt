use Rattle.std.proofs.Common.{◌≡◌, ◌+◌, ◌*◌, ◌≤◌, drop}
use Rattle.lfs_durable_store.specs.Fitting.{frames_of_all_at_most}
use Rattle.lfs_durable_store.proofs.fitting.frames_of_all_at_most.Given as goal

abbrev pub invariant-loop-change : goal.invariant-loop-change
invariant-loop-change l = record {
  all : l.frames + frames_of_all_at_most (drop l.change-index l.changes) ≡ frames_of_all_at_most l.changes;
  few : l.frames ≤ 12 * l.change-index;
}
