use Rattle.std.proofs.Common.{[], ap, sym, ◌∙◌}
use Rattle.lfs_live.specs.Held.{sink_of}
use Rattle.lfs_live.proofs.KeepingLemmas.{closed_view, moves_closed, moves_none}
use Rattle.lfs_live.proofs.tended.Tended.move_on.Goals as goal

pub returns-in-Err-clause-moves : goal.returns-in-Err-clause-moves
returns-in-Err-clause-moves g c =
    let old = c.args.self.now in (
      [],
      moves_closed g.F.FileStore.state (sink_of g.J.JournalSink.contents g.J.JournalSink.next) c.args.before old
          c.close.new.self (sym (ap (λ h. h.is_open) c.self.view_is) ∙ c.if-self.true)
          c.in-Err.ensures.some
          (closed_view old c.keep_up.new.self c.close.new.self c.in-Err.ensures.failed c.close.ensures),
    )

pub returns-else-self-clause-moves : goal.returns-else-self-clause-moves
returns-else-self-clause-moves g c = (
  [],
  moves_none g.F.FileStore.state (sink_of g.J.JournalSink.contents g.J.JournalSink.next) c.args.before
      c.args.self.now (sym (ap (λ h. h.is_open) c.self.view_is) ∙ c.if-self.false),
)
