use Rattle.std.proofs.Common.{ap, arith, length, ◌∙◌}
use Rattle.lfs_live.specs.Held.{sink_of}
use Rattle.lfs_live.proofs.KeepingLemmas.{takes_empty}
use Rattle.lfs_live.proofs.tended.Tended.give.Goals as goal

pub returns-else-journal-gt0-clause-taken : goal.returns-else-journal-gt0-clause-taken
returns-else-journal-gt0-clause-taken g c =
    let kept = ap length (c.journal.ensures.entries ∙ ap (λ h. h.volume.journal) c.self.view_is) in
    takes_empty (sink_of g.J.JournalSink.contents g.J.JournalSink.next) c.args.self.now.sink c.args.before
    c.args.self.now.volume.journal (omega (arith, c.if-journal-gt0.false, kept))
