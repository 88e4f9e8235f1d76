use Rattle.std.proofs.Common.{ap, refl, subst, sym, ◌∙◌}
use Rattle.lfs_volume.specs.Journals.{AtPresent, Begins}
use Rattle.lfs_volume.proofs.SyncLemmas.{sync_shown}
use Rattle.lfs_live.proofs.FlushLemmas.{done_is, sync_refused}
use Rattle.lfs_live.proofs.tended.Tended.sync.Goals as goal

pub returns-clause-flushed : goal.returns-clause-flushed
returns-clause-flushed g c = λ is.
    c.call-answer.ensures.synced refl (done_is c.call-answer.result (sym c.is_done-done.ensures ∙ is))

pub returns-clause-refused : goal.returns-clause-refused
returns-clause-refused g c = λ undone.
    sync_refused g.F.FileStore.state c.args.self.now.volume c.self.inside.volume c.first_caller.result
    c.call-answer.result (ap (λ h. h.volume) c.self.view_is) c.first_caller.ensures
    (sym c.is_done-done.ensures ∙ undone) c.call-answer.ensures.outcome

pub returns-clause-shown : goal.returns-clause-shown
returns-clause-shown g c =
    let call = c.call-answer.ensures in
    subst (λ h. AtPresent g.F.FileStore.state h.volume
    (Begins (g.F.FileStore.state c.call-answer.new.self.store) c.call-answer.new.self.level)) c.self.view_is
    (sync_shown g.F.FileStore.state c.self.inside.volume c.call-answer.new.self 0 c.first_caller.result
    c.call-answer.result call.entered call.legal call.since call.since_level call.follows)
