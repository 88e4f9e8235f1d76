use Rattle.std.proofs.Common.{◌≡◌, ◌++◌, ◌≤◌, length, vec_capacity}
use Rattle.lfs_types.specs.StoreStates.{Follows}
use Rattle.lfs_model.specs.Runs.{kept}
use Rattle.lfs_volume.specs.CallRuns.{AreCallsAsked}
use Rattle.lfs_volume.specs.Journals.{IsJournal, Since}
use Rattle.lfs_volume.proofs.volume.Volume.run.Given as goal

abbrev pub invariant-loop-session : goal.invariant-loop-session
invariant-loop-session g l = record {
  each : Since (g.F.FileStore.state l.fn.self.since) l.fn.self.since_level
      (λ from. AreCallsAsked g.F.FileStore.state g.F.FileStore.is_flushed g.F.FileStore.made l.fn.self.limit from
      l.fn.self.journal l.fn.self.store l.yielded l.answers.items l.self.store);
  entered : l.self.journal ≡ l.fn.self.journal ++ kept l.yielded l.answers.items;
  legal : Since (g.F.FileStore.state l.self.since) l.self.since_level
      (λ from. IsJournal from (g.F.FileStore.state l.self.store) l.self.level l.self.journal l.self.limit);
  since : l.self.since ≡ l.fn.self.since;
  since_level : l.self.since_level ≡ l.fn.self.since_level;
  all : l.yielded ++ l.session-iterator.rest.items ≡ l.fn.calls.items;
  count : length l.answers.items ≡ length l.yielded;
  room : length l.fn.calls.items ≤ vec_capacity l.answers;
  limit : l.self.limit ≡ l.fn.self.limit;
  follows : Follows (g.F.FileStore.state l.fn.self.store) (g.F.FileStore.state l.self.store);
}
