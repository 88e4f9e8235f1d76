use Rattle.std.proofs.Common.{ap, sym, ◌∙◌}
use Rattle.lfs_audit.proofs.FiledLemmas.{closed_view, handed_on, shut_on, stays_on}
use Rattle.lfs_audit.proofs.filing.FiledVolume.move_on.Goals as goal

pub returns-in-Err-clause-moves : goal.returns-in-Err-clause-moves
returns-in-Err-clause-moves g c =
    let old = c.args.self.now in
    shut_on g.F.FileStore.state g.J.JournalSink.contents g.J.JournalSink.next old c.close.new.self
    (sym (ap (λ h. h.is_open) c.self.view_is) ∙ c.if-self.true)
    (closed_view old c.hand_out.new.self c.close.new.self c.in-Err.ensures.failed c.close.ensures)

pub returns-else-self-clause-moves : goal.returns-else-self-clause-moves
returns-else-self-clause-moves g c =
    stays_on g.F.FileStore.state g.J.JournalSink.contents g.J.JournalSink.next c.args.self.now
    (sym (ap (λ h. h.is_open) c.self.view_is) ∙ c.if-self.false)

pub returns-in-Ok-clause-moves : goal.returns-in-Ok-clause-moves
returns-in-Ok-clause-moves g c =
    handed_on g.F.FileStore.state g.J.JournalSink.contents g.J.JournalSink.next c.args.self.now c.hand_out.new.self
    (sym (ap (λ h. h.is_open) c.self.view_is) ∙ c.if-self.true) c.in-Ok.ensures.handed
