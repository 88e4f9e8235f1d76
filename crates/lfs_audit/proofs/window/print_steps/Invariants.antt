use Rattle.std.proofs.Common.{◌≡◌, List, ◌++◌, length}
use Rattle.std.specs.Io.KnownBytes.{append_known}
use Rattle.lfs_script.specs.declared.plan.Step.{Step}
use Rattle.lfs_volume.specs.Cleanings.{cleaner_of}
use Rattle.lfs_audit.specs.Windows.{HasLineRoom, IsWindowed}
use Rattle.lfs_audit.proofs.window.print_steps.Given as goal

abbrev pub invariant-loop-step : goal.invariant-loop-step
invariant-loop-step g l =
    let r = cleaner_of g.F.FileStore.state g.F.FileStore.is_flushed g.F.FileStore.made g.F.CleanedStore.cleaner in
    record {
      done : List Step;
      whole : l.fn.steps ≡ done ++ l.step-iterator;
      windowed : IsWindowed r l.fn.window.left l.fn.volume l.volume l.window.tally.totals l.window.tally.refusals
          l.window.left done (append_known (g.W.Write.contents l.fn.writer) l.fn.text.items)
          (append_known (g.W.Write.contents l.writer) l.text.items);
      room : HasLineRoom (length l.volume.journal) l.volume.limit l.window.left;
    }
