use Rattle.std.proofs.Common.{◌+◌, ap, refl, sym, ◌∙◌}
use Rattle.std.proofs.lemmas.Result.{err_from_is_err_and}
use Rattle.lfs_volume.specs.Cleanings.{cleaner_of}
use Rattle.lfs_live.specs.Held.{sink_of}
use Rattle.lfs_live.specs.Talkers.{talker_of}
use Rattle.lfs_live.proofs.KeepingLemmas.{same_open}
use Rattle.lfs_live.proofs.TalkLemmas.{heard_enough, heard_failed, heard_last, heard_next, heard_none, tended_opened}
use Rattle.lfs_live.proofs.talk.hear_all.Goals as goal

pub loop-before-init : goal.loop-before-init
loop-before-init g c =
    let s = g.F.CleanedStore in
    let r = talker_of (cleaner_of g.F.FileStore.state g.F.FileStore.is_flushed g.F.FileStore.made s.cleaner) g.F.ShowsLog.map_text
    g.F.ShowsLog.segment_text g.F.ShowsLog.space_text g.F.ChecksLog.checked g.V.Watch.kept in
    record {
      heard = λ begins. heard_none r c.args.setting.framing
          (sink_of g.J.JournalSink.contents g.J.JournalSink.next) c.args.tended.now _ _ _ _
          (ap (λ s. s.speaker) c.first-standing.ensures) (ap (λ s. s.has_fault) c.first-standing.ensures)
          begins.0 begins.1;
      held = ap (λ s. s.setting) c.first-standing.ensures;
      opened = λ is. is;
      silent = λ _. refl;
    }

pub returns-in_err-hear_next-clause-so_far : goal.returns-in_err-hear_next-clause-so_far
returns-in_err-hear_next-clause-so_far g c =
    let s = g.F.CleanedStore in
    let r = talker_of (cleaner_of g.F.FileStore.state g.F.FileStore.is_flushed g.F.FileStore.made s.cleaner) g.F.ShowsLog.map_text
    g.F.ShowsLog.segment_text g.F.ShowsLog.space_text g.F.ChecksLog.checked g.V.Watch.kept in
    let sink = sink_of g.J.JournalSink.contents g.J.JournalSink.next in
    let exit = err_from_is_err_and c.from_residual.result c.from_residual.ensures.1 in
    rw (exit.1, exit.2)
    (λ is begins. let failed = c.in_err-hear_next.ensures.failed is in
    heard_failed r c.args.setting.framing sink c.args.tended.now c.loop-before.tended c.hear_next.new.tended
    c.loop-before.standing.speaker c.loop-before.before c.loop-before.standing.has_fault _
    (g.R.Read.remaining c.loop-before.reader) _ _ (g.W.Write.contents c.loop-before.writer) _
    (c.loop-before.invariant.heard begins) failed.0 failed.1)

pub returns-then-not-branch-clause-heard : goal.returns-then-not-branch-clause-heard
returns-then-not-branch-clause-heard g c =
    let s = g.F.CleanedStore in
    let r = talker_of (cleaner_of g.F.FileStore.state g.F.FileStore.is_flushed g.F.FileStore.made s.cleaner) g.F.ShowsLog.map_text
    g.F.ShowsLog.segment_text g.F.ShowsLog.space_text g.F.ChecksLog.checked g.V.Watch.kept in
    let sink = sink_of g.J.JournalSink.contents g.J.JournalSink.next in
    let last = c.in_ok-hear_next.ensures.last c.if-not-branch.true in
    λ begins. heard_last r c.args.setting.framing sink c.args.tended.now c.loop-before.tended c.hear_next.new.tended
    (record c.loop-before.standing { number = c.loop-before.before + 1 }) c.hear_next.new.self c.loop-before.before
    _ (g.R.Read.remaining c.loop-before.reader) _ _
    (g.W.Write.contents c.loop-before.writer) _ (c.loop-before.invariant.heard begins) refl
    (ap (λ s. s.framing) c.loop-before.invariant.held) last.0 last.1

pub returns-then-not-branch-clause-silent : goal.returns-then-not-branch-clause-silent
returns-then-not-branch-clause-silent g c = λ same.
    let last = c.in_ok-hear_next.ensures.last c.if-not-branch.true in
    let still = ap (λ h. h.is_open) last.0 in
    c.in_ok-hear_next.ensures.silent still ∙ c.loop-before.invariant.silent (sym still ∙ same)

pub returns-then-not-branch-clause-opened : goal.returns-then-not-branch-clause-opened
returns-then-not-branch-clause-opened g c = λ is.
    let last = c.in_ok-hear_next.ensures.last c.if-not-branch.true in
    c.loop-before.invariant.opened (sym (ap (λ h. h.is_open) last.0) ∙ is)

pub loop-before-preserved : goal.loop-before-preserved
loop-before-preserved g c =
    let s = g.F.CleanedStore in
    let r = talker_of (cleaner_of g.F.FileStore.state g.F.FileStore.is_flushed g.F.FileStore.made s.cleaner) g.F.ShowsLog.map_text
    g.F.ShowsLog.segment_text g.F.ShowsLog.space_text g.F.ChecksLog.checked g.V.Watch.kept in
    let sink = sink_of g.J.JournalSink.contents g.J.JournalSink.next in
    let next = c.in_ok-hear_next.ensures.next c.if-not-branch.false in
    record {
      heard = λ begins. heard_next r c.args.setting.framing sink c.args.tended.now c.loop-before.tended
          c.hear_next.new.tended (record c.loop-before.standing { number = c.loop-before.before + 1 })
          c.hear_next.new.self c.loop-before.before _ (g.R.Read.remaining c.loop-before.reader) _ _
          (g.W.Write.contents c.loop-before.writer) _ (c.loop-before.invariant.heard begins) refl
          (ap (λ s. s.framing) c.loop-before.invariant.held) next;
      held = c.hear_next.ensures.same ∙ c.loop-before.invariant.held;
      opened = λ is. c.loop-before.invariant.opened (tended_opened r sink c.loop-before.tended next.heard.middle
          next.heard.tally c.hear_next.new.tended next.heard.tended is);
      silent = λ same.
          let taking = same_open c.args.tended.now.is_open c.loop-before.tended.is_open c.hear_next.new.tended.is_open
          c.loop-before.invariant.opened (tended_opened r sink c.loop-before.tended next.heard.middle
          next.heard.tally c.hear_next.new.tended
          next.heard.tended) same in
          c.in_ok-hear_next.ensures.silent taking.1 ∙ c.loop-before.invariant.silent taking.0;
    }

pub returns-clause-so_far : goal.returns-clause-so_far
returns-clause-so_far g c =
    let s = g.F.CleanedStore in
    let r = talker_of (cleaner_of g.F.FileStore.state g.F.FileStore.is_flushed g.F.FileStore.made s.cleaner) g.F.ShowsLog.map_text
    g.F.ShowsLog.segment_text g.F.ShowsLog.space_text g.F.ChecksLog.checked g.V.Watch.kept in
    let sink = sink_of g.J.JournalSink.contents g.J.JournalSink.next in
    λ is begins. heard_enough r c.args.setting.framing sink c.args.tended.now c.loop-before.tended c.loop-before.standing.speaker
    c.loop-before.before c.loop-before.standing.has_fault _ _ _ _
    (c.loop-before.invariant.heard begins)
