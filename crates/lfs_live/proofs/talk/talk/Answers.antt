use Rattle.std.proofs.lemmas.Result.{err_from_is_err_and}
use Rattle.lfs_volume.specs.Cleanings.{cleaner_of}
use Rattle.lfs_live.specs.Held.{sink_of}
use Rattle.lfs_live.specs.Talkers.{talker_of}
use Rattle.lfs_live.proofs.TalkLemmas.{talk_ended, talk_failed}
use Rattle.lfs_live.proofs.talk.talk.Goals as goal

pub returns-in_err-has_fault-clause-so_far : goal.returns-in_err-has_fault-clause-so_far
returns-in_err-has_fault-clause-so_far g c =
    let s = g.F.CleanedStore in
    let r = talker_of (cleaner_of g.F.FileStore.state g.F.FileStore.is_flushed g.F.FileStore.made s.cleaner) g.F.ShowsLog.map_text
    g.F.ShowsLog.segment_text g.F.ShowsLog.space_text g.F.ChecksLog.checked g.V.Watch.kept in
    let sink = sink_of g.J.JournalSink.contents g.J.JournalSink.next in
    let exit = err_from_is_err_and c.from_residual.result c.from_residual.ensures.1 in
    rw (exit.1, exit.2)
    (λ is begins. talk_failed r c.args.setting.framing sink c.args.tended.now c.hear_all.new.tended _ _ _ _
    (c.in_err-has_fault.ensures.so_far is begins))

pub returns-clause-written : goal.returns-clause-written
returns-clause-written g c =
    let s = g.F.CleanedStore in
    let r = talker_of (cleaner_of g.F.FileStore.state g.F.FileStore.is_flushed g.F.FileStore.made s.cleaner) g.F.ShowsLog.map_text
    g.F.ShowsLog.segment_text g.F.ShowsLog.space_text g.F.ChecksLog.checked g.V.Watch.kept in
    let sink = sink_of g.J.JournalSink.contents g.J.JournalSink.next in
    λ begins. talk_ended r c.args.setting.framing sink c.args.tended.now c.hear_all.new.tended
    c.in_ok-has_fault.has_fault _ _ _ (g.W.Write.contents c.hear_all.new.writer) _
    (c.in_ok-has_fault.ensures.heard begins) c.in_ok-report.ensures.reported c.report.ensures.legal
