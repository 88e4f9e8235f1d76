use Rattle.std.proofs.Common.{◌≡◌, List, ◌++◌, true}
use Rattle.std.specs.Io.KnownBytes.{append_known}
use Rattle.lfs_script.specs.declared.plan.Step.{Step}
use Rattle.lfs_volume.specs.Cleanings.{cleaner_of}
use Rattle.lfs_audit.proofs.FiledLemmas.{IsFiling}
use Rattle.lfs_audit.proofs.filing.FiledVolume.run_plan.Given as goal

abbrev pub invariant-loop-step : goal.invariant-loop-step
invariant-loop-step g l =
    let r = cleaner_of g.F.FileStore.state g.F.FileStore.is_flushed g.F.FileStore.made g.F.CleanedStore.cleaner in
    record {
      done : List Step;
      filing : IsFiling r g.J.JournalSink.contents g.J.JournalSink.next l.fn.self l.self done
          (g.W.Write.contents l.fn.writer) (append_known (g.W.Write.contents l.writer) l.text.items);
      all : done ++ l.step-iterator ≡ l.fn.steps;
      silent : l.self.is_open ≡ true → l.teller ≡ l.fn.teller;
    }
