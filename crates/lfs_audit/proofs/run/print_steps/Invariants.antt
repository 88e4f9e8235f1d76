use Rattle.std.proofs.Common.{◌≡◌, List, ◌++◌}
use Rattle.std.specs.Io.KnownBytes.{append_known}
use Rattle.lfs_script.specs.declared.plan.Step.{Step}
use Rattle.lfs_volume.specs.Cleanings.{cleaner_of}
use Rattle.lfs_audit.specs.Runs.{WritesLines}
use Rattle.lfs_audit.proofs.run.print_steps.Given as goal

abbrev pub invariant-loop-step : goal.invariant-loop-step
invariant-loop-step g l =
    let s = g.F.CleanedStore in
    let r = cleaner_of g.F.FileStore.state g.F.FileStore.is_flushed g.F.FileStore.made s.cleaner in
    record {
      done : List Step;
      whole : l.fn.steps ≡ done ++ l.step-iterator;
      writes : WritesLines r l.fn.volume l.volume l.fn.refusals l.refusals done
          (append_known (g.W.Write.contents l.fn.writer) l.fn.text.items)
          (append_known (g.W.Write.contents l.writer) l.text.items);
    }
