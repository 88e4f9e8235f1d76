use Rattle.std.proofs.Common.{◌≡◌, Bool, ◌||◌, List, Option, ℕ, ap, length, subst, sym, ◌∙◌}
use Rattle.std.specs.Prelude.{IfSome}
use Rattle.std.proofs.lemmas.Option.{MatchOption-at_some}
use Rattle.std.specs.Io.KnownBytes.{Appends}
use Rattle.lfs_volume.specs.Cleanings.{cleaner_of}
use Rattle.lfs_volume.specs.Seen.{Seen}
use Rattle.lfs_live.specs.Faulty.{is_faulty}
use Rattle.lfs_live.specs.Frames.{framed}
use Rattle.lfs_hearing.specs.Hearing.{heard_of}
use Rattle.lfs_live.specs.Held.{Held, Moves, sink_of}
use Rattle.lfs_live.specs.Steps.{HasAnswered, HasTidied}
use Rattle.lfs_live.specs.Talkers.{talker_of}
use Rattle.lfs_audit.specs.declared.asker.Asker.{Asker}
use Rattle.lfs_live.specs.declared.telling.Told.{Told}
use Rattle.lfs_live.proofs.talk.Standing.hear_line.Goals as goal

pub returns-in_ok-tidy-in-Some-clause-told : goal.returns-in_ok-tidy-in-Some-clause-told
returns-in_ok-tidy-in-Some-clause-told g c = λ _.
    let s = g.F.CleanedStore in
    let r = talker_of (cleaner_of g.F.FileStore.state g.F.FileStore.is_flushed g.F.FileStore.made s.cleaner) g.F.ShowsLog.map_text
    g.F.ShowsLog.segment_text g.F.ShowsLog.space_text g.F.ChecksLog.checked g.V.Watch.kept in
    let sink = sink_of g.J.JournalSink.contents g.J.JournalSink.next in
    let was = c.args.self.now in
    let says = heard_of c.args.bytes.now in
    let v = c.tended.inside in
    let first = c.tended.view_is in
    let text = c.in-Some.told.text.items in
    let said = MatchOption-at_some _ _ _ c.in-Some.is c.in_ok-told.ensures.told in
    let faulty = subst (λ (o : Option Told). IfSome o (λ told. told.has_fault ≡ is_faulty says told.text.items))
    c.in-Some.is c.in_ok-told.ensures.faulty in
    let noted = c.note.ensures in
    let moves = c.move_on.ensures.moves in
    let tidied = c.in_ok-tidy-in-Some.ensures.tidied in
    record {
      middle = c.answer.new.volume;
      tally = c.answer.new.tally;
      told = text;
      answered = subst (λ (p : Asker). HasAnswered r was.number c.args.tended.now.volume c.answer.new.volume
          c.args.tended.now.tally c.answer.new.tally was.speaker p says text) (sym (ap (λ s. s.speaker) noted))
          (subst (λ (h : Held g.row.F.Denot g.row.J.Denot). HasAnswered r was.number h.volume c.answer.new.volume
          h.tally c.answer.new.tally was.speaker c.answer.new.speaker says text) first said);
      tended = record {
        between = c.move_on.new.self;
        first = moves.0;
        then = tidied.0;
        moves = subst (λ (h : Held g.row.F.Denot g.row.J.Denot). Moves r.cleaner.state sink
            (length h.volume.journal) (record h { volume = c.answer.new.volume; tally = c.answer.new.tally })
            c.move_on.new.self moves.0) first
            (subst (λ (n : ℕ). Moves r.cleaner.state sink n (record {
              volume = c.answer.new.volume;
              sink = v.sink;
              tally = c.answer.new.tally;
              is_open = v.is_open;
              cleans = v.cleans;
            }) c.move_on.new.self moves.0)
            (ap length c.journal-before.ensures.entries) moves.1);
        tidies = subst (λ (h : Held g.row.F.Denot g.row.J.Denot). HasTidied r.cleaner sink h c.tidy.new.self tidied.0)
            c.show.ensures tidied.1;
      };
      printed = subst (λ (t : List ℕ). Appends (g.W.Write.contents c.args.writer.now)
          (g.W.Write.contents c.say.new.writer) (framed was.setting.framing t)) c.as_slice-text.ensures.value
          c.in_ok-say-in-Some.ensures.written;
      faulty = ap (λ s. s.has_fault) noted ∙ ap (λ (b : Bool). was.has_fault || b) faulty;
    }
