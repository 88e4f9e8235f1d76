use Rattle.std.proofs.Common.{◌≡◌, ◌++◌, ◌≤◌, length, vec_capacity}
use Rattle.lfs_model.specs.Runs.{kept_steps}
use Rattle.lfs_volume.specs.Cleanings.{cleaner_of}
use Rattle.lfs_volume.specs.Journals.{IsJournal, Since}
use Rattle.lfs_volume.specs.StepRuns.{AreSteps}
use Rattle.lfs_volume.proofs.volume.Volume.run_steps.Given as goal

abbrev pub invariant-loop-step : goal.invariant-loop-step
invariant-loop-step g l =
    let r = g.F.CleanedStore in
    record {
      each : Since (g.F.FileStore.state l.fn.self.since) l.fn.self.since_level
          (λ from. AreSteps (cleaner_of g.F.FileStore.state g.F.FileStore.is_flushed g.F.FileStore.made r.cleaner) l.fn.self.limit from
          l.fn.self.journal l.fn.self.store l.yielded l.answers.items l.self.store);
      entered : l.self.journal ≡ l.fn.self.journal ++ kept_steps l.yielded l.answers.items;
      legal : Since (g.F.FileStore.state l.self.since) l.self.since_level
          (λ from. IsJournal from (g.F.FileStore.state l.self.store) l.self.level l.self.journal l.self.limit);
      since : l.self.since ≡ l.fn.self.since;
      since_level : l.self.since_level ≡ l.fn.self.since_level;
      all : l.yielded ++ l.step-iterator.rest.items ≡ l.fn.steps.items;
      count : length l.answers.items ≡ length l.yielded;
      room : length l.fn.steps.items ≤ vec_capacity l.answers;
      limit : l.self.limit ≡ l.fn.self.limit;
      shape : (g.F.FileStore.state l.self.store).shape ≡ (g.F.FileStore.state l.fn.self.store).shape;
    }
