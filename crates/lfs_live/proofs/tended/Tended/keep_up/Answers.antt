use Rattle.std.proofs.Common.{[], length, subst, ◌≤◌}
use Rattle.lfs_live.specs.Held.{sink_of}
use Rattle.lfs_live.proofs.KeepingLemmas.{moves_given, moves_if_out, on_any_err}
use Rattle.lfs_live.proofs.tended.Tended.keep_up.Goals as goal

pub returns-then-is_full-clause-moves : goal.returns-then-is_full-clause-moves
returns-then-is_full-clause-moves g c =
    moves_if_out g.F.FileStore.state (sink_of g.J.JournalSink.contents g.J.JournalSink.next) c.args.before
    c.args.self.now c.give.new.self c.hand_out.new.self c.hand_out.result
    c.requires c.give.ensures.same c.in_ok-give.ensures.taken c.hand_out.ensures.drained c.hand_out.ensures.legal

pub returns-else-is_full-clause-moves : goal.returns-else-is_full-clause-moves
returns-else-is_full-clause-moves g c = (
  [],
  moves_given g.F.FileStore.state (sink_of g.J.JournalSink.contents g.J.JournalSink.next) c.args.before
      c.args.self.now c.give.new.self c.give.ensures.same c.in_ok-give.ensures.taken (c.is_full.ensures.room c.if-is_full.false),
)

pub returns-then-is_full-clause-some : goal.returns-then-is_full-clause-some
returns-then-is_full-clause-some g c = on_any_err c.hand_out.result
    (subst (λ h. 1 ≤ length h.volume.journal) c.give.ensures.same (c.is_full.ensures.some c.if-is_full.true))
