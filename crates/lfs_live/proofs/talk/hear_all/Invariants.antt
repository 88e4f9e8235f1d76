use Rattle.std.proofs.Common.{◌≡◌, true}
use Rattle.lfs_volume.specs.Cleanings.{cleaner_of}
use Rattle.lfs_live.specs.Held.{HasBegun, sink_of}
use Rattle.lfs_live.specs.Talkers.{talker_of}
use Rattle.lfs_live.proofs.talk.hear_all.Given as goal
use Rattle.lfs_live.proofs.TalkLemmas.{HasHeard}

abbrev pub invariant-loop-before : goal.invariant-loop-before
invariant-loop-before g l =
    let s = g.F.CleanedStore in
    let r = talker_of (cleaner_of g.F.FileStore.state g.F.FileStore.is_flushed g.F.FileStore.made s.cleaner) g.F.ShowsLog.map_text
    g.F.ShowsLog.segment_text g.F.ShowsLog.space_text g.F.ChecksLog.checked g.V.Watch.kept in
    record {
      heard : HasBegun l.fn.tended → HasHeard r l.fn.setting.framing
          (sink_of g.J.JournalSink.contents g.J.JournalSink.next) l.fn.tended l.tended l.standing.speaker l.before
          l.standing.has_fault (g.R.Read.remaining l.fn.reader) (g.R.Read.remaining l.reader)
          (g.W.Write.contents l.fn.writer) (g.W.Write.contents l.writer);
      held : l.standing.setting ≡ l.fn.setting;
      opened : l.tended.is_open ≡ true → l.fn.tended.is_open ≡ true;
      silent : l.tended.is_open ≡ l.fn.tended.is_open → l.teller ≡ l.fn.teller;
    }
