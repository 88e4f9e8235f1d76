use Rattle.std.proofs.Common.{◌≡◌, ◌++◌, ◌≤◌, length, vec_capacity}
use Rattle.lfs_model.specs.Runs.{kept}
use Rattle.lfs_volume.specs.CallRuns.{AreAnswers}
use Rattle.lfs_volume.specs.Journals.{Since}
use Rattle.lfs_mount.specs.Making.{OnAny, calls_as}
use Rattle.lfs_mount.specs.Runs.{IsRun}
use Rattle.lfs_mount.proofs.MakingLemmas.{AllFull}
use Rattle.lfs_mount.proofs.making.make.Given as goal

abbrev pub invariant-loop-request : goal.invariant-loop-request
invariant-loop-request g l = record {
  each : Since (g.F.FileStore.state l.fn.volume.since) l.fn.volume.since_level
      (λ from. AreAnswers g.F.FileStore.state g.F.FileStore.is_flushed l.fn.volume.limit from l.fn.volume.journal
      l.fn.volume.store (calls_as l.cred l.yielded) l.answers.items l.volume.store);
  entered : l.volume.journal ≡ l.fn.volume.journal ++ kept (calls_as l.cred l.yielded) l.answers.items;
  within : OnAny l.answers.items (Since (g.F.FileStore.state l.fn.volume.since) l.fn.volume.since_level
      (λ from. length l.volume.journal ≤ l.volume.limit));
  full : AllFull l.yielded l.answers.items;
  all : l.yielded ++ l.request-iterator.rest.items ≡ l.fn.requests.items;
  count : length l.answers.items ≡ length l.yielded;
  room : length l.fn.requests.items ≤ vec_capacity l.answers;
  since : l.volume.since ≡ l.fn.volume.since;
  since_level : l.volume.since_level ≡ l.fn.volume.since_level;
  limit : l.volume.limit ≡ l.fn.volume.limit;
  shape : (g.F.FileStore.state l.volume.store).shape ≡ (g.F.FileStore.state l.fn.volume.store).shape;
  legal : IsRun g.F.FileStore.state l.fn.volume → IsRun g.F.FileStore.state l.volume;
}
