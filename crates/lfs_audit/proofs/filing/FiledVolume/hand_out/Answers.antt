use Rattle.lfs_audit.proofs.FiledLemmas.{handed_if}
use Rattle.lfs_audit.proofs.filing.FiledVolume.hand_out.Goals as goal

pub returns-clause-handed : goal.returns-clause-handed
returns-clause-handed g c =
    handed_if g.F.FileStore.state g.J.JournalSink.contents g.J.JournalSink.next c.args.self.now c.give.new.self
    c.drain.new.self c.drain.result c.give.ensures.same c.in_ok-give.ensures.taken c.drain.ensures.drained
    c.drain.ensures.leads
