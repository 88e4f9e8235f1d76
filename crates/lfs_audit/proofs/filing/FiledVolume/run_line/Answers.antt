use Rattle.std.proofs.Common.{subst}
use Rattle.std.proofs.lemmas.Result.{on_ok_weaker}
use Rattle.lfs_volume.specs.Cleanings.{cleaner_of}
use Rattle.lfs_audit.specs.Filing.{Filed, FilesLine}
use Rattle.lfs_audit.proofs.FiledLemmas.{files_line}
use Rattle.lfs_audit.proofs.filing.FiledVolume.run_line.Goals as goal

pub returns-clause-done : goal.returns-clause-done
returns-clause-done g c =
    let state = g.F.FileStore.state in
    let r = cleaner_of state g.F.FileStore.is_flushed g.F.FileStore.made g.F.CleanedStore.cleaner in
    let step = c.args.step in
    let v = c.self.inside in
    on_ok_weaker c.run_step-done.result
    (λ line. subst (λ (h : Filed g.row.F.Denot g.row.J.Denot). FilesLine r g.J.JournalSink.contents
    g.J.JournalSink.next h c.move_on.new.self step.session step.cred step.act c.args.text.now.items
    c.run_step-done.new.text.items) c.self.view_is
    (files_line r g.J.JournalSink.contents g.J.JournalSink.next
    (record {
      volume = v.volume;
      sink = v.sink;
      told = v.tally.totals;
      refusals = v.tally.refusals;
      is_open = v.is_open;
    }) c.move_on.new.self step.session step.cred step.act _ _ c.run_step-done.new.volume c.run_step-done.new.refusals
    line c.move_on.ensures.moves))
    c.run_step-done.ensures
