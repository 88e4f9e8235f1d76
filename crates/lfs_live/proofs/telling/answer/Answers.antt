use Rattle.std.proofs.Common.{List, ℕ, ap, rules, subst, sym}
use Rattle.std.proofs.lemmas.Option.{MatchOption-at_some}
use Rattle.lfs_volume.specs.Cleanings.{cleaner_of}
use Rattle.lfs_hearing.specs.Hearing.{heard_of}
use Rattle.lfs_live.specs.Steps.{HasAnswered}
use Rattle.lfs_live.specs.Talkers.{talker_of}
use Rattle.lfs_live.proofs.TellingLemmas.{asks_answered, check_answered, dot_answered, fault_answered}
use Rattle.lfs_live.proofs.TellingLemmas.{look_answered, save_answered}
use Rattle.lfs_live.proofs.telling.answer.Goals as goal

pub returns-in_ok-text-in-Asks-clause-told : goal.returns-in_ok-text-in-Asks-clause-told
returns-in_ok-text-in-Asks-clause-told g c =
    let r = talker_of (cleaner_of g.F.FileStore.state g.F.FileStore.is_flushed g.F.FileStore.made g.F.CleanedStore.cleaner)
    g.F.ShowsLog.map_text g.F.ShowsLog.segment_text g.F.ShowsLog.space_text g.F.ChecksLog.checked g.V.Watch.kept in
    let line = c.args.said.line in
    let speaker = c.args.speaker.now in
    let tally = c.args.tally.now in
    subst (λ (told : List ℕ). HasAnswered r line.number c.args.volume.now c.tell_inquiry-text.new.volume tally tally
    speaker speaker (heard_of line.bytes.now) told) (sym (ap (λ t. t.text.items) c.faultless-in-Asks.ensures))
    (asks_answered r line.number c.args.volume.now c.tell_inquiry-text.new.volume tally speaker line.bytes.now
    c.in-Asks.inquiry c.in-Asks.request _ (search rules) c.tell_inquiry-text.ensures.looks
    c.in_ok-text-in-Asks.ensures.text)

pub returns-in_ok-text-in-Looks-clause-told : goal.returns-in_ok-text-in-Looks-clause-told
returns-in_ok-text-in-Looks-clause-told g c =
    let r = talker_of (cleaner_of g.F.FileStore.state g.F.FileStore.is_flushed g.F.FileStore.made g.F.CleanedStore.cleaner)
    g.F.ShowsLog.map_text g.F.ShowsLog.segment_text g.F.ShowsLog.space_text g.F.ChecksLog.checked g.V.Watch.kept in
    let line = c.args.said.line in
    let speaker = c.args.speaker.now in
    let tally = c.args.tally.now in
    subst (λ (told : List ℕ). HasAnswered r line.number c.args.volume.now c.tell_look-text.new.volume tally tally
    speaker speaker (heard_of line.bytes.now) told) (sym (ap (λ t. t.text.items) c.faultless-in-Looks.ensures))
    (look_answered r line.number c.args.volume.now c.tell_look-text.new.volume tally speaker line.bytes.now
    c.in-Looks.look c.in-Looks.path _ (search rules) c.in_ok-text-in-Looks.ensures)

pub returns-in-Some-clause-told : goal.returns-in-Some-clause-told
returns-in-Some-clause-told g c =
    let r = talker_of (cleaner_of g.F.FileStore.state g.F.FileStore.is_flushed g.F.FileStore.made g.F.CleanedStore.cleaner)
    g.F.ShowsLog.map_text g.F.ShowsLog.segment_text g.F.ShowsLog.space_text g.F.ChecksLog.checked g.V.Watch.kept in
    let line = c.args.said.line in
    dot_answered r line.number c.args.volume.now c.args.tally.now c.args.speaker.now line.bytes.now c.in-Dot.dot
    c.in-Some.text.items c.of_dot.result.text.items (search rules)
    (MatchOption-at_some _ _ _ c.in-Some.is c.in_ok-text-in-Dot.ensures) (ap (λ t. t.items) c.of_dot.ensures.text)

pub returns-in_ok-text-in-Fault-clause-told : goal.returns-in_ok-text-in-Fault-clause-told
returns-in_ok-text-in-Fault-clause-told g c =
    let r = talker_of (cleaner_of g.F.FileStore.state g.F.FileStore.is_flushed g.F.FileStore.made g.F.CleanedStore.cleaner)
    g.F.ShowsLog.map_text g.F.ShowsLog.segment_text g.F.ShowsLog.space_text g.F.ChecksLog.checked g.V.Watch.kept in
    let line = c.args.said.line in
    fault_answered r line.number c.args.volume.now c.args.tally.now c.args.speaker.now line.bytes.now
    c.in-Fault.fault _ _ (search rules) c.in_ok-text-in-Fault.ensures

pub returns-in_ok-text-in-Check-clause-told : goal.returns-in_ok-text-in-Check-clause-told
returns-in_ok-text-in-Check-clause-told g c =
    let r = talker_of (cleaner_of g.F.FileStore.state g.F.FileStore.is_flushed g.F.FileStore.made g.F.CleanedStore.cleaner)
    g.F.ShowsLog.map_text g.F.ShowsLog.segment_text g.F.ShowsLog.space_text g.F.ChecksLog.checked g.V.Watch.kept in
    let line = c.args.said.line in
    let speaker = c.args.speaker.now in
    let tally = c.args.tally.now in
    let volume = c.args.volume.now in
    subst (λ (told : List ℕ). HasAnswered r line.number volume volume tally tally speaker speaker
    (heard_of line.bytes.now) told) (sym (ap (λ t. t.text.items) c.faultless-in-Check.ensures))
    (check_answered r line.number volume tally speaker line.bytes.now _ (search rules) c.in_ok-text-in-Check.ensures)

pub returns-in_ok-text-in-Save-clause-told : goal.returns-in_ok-text-in-Save-clause-told
returns-in_ok-text-in-Save-clause-told g c =
    let r = talker_of (cleaner_of g.F.FileStore.state g.F.FileStore.is_flushed g.F.FileStore.made g.F.CleanedStore.cleaner)
    g.F.ShowsLog.map_text g.F.ShowsLog.segment_text g.F.ShowsLog.space_text g.F.ChecksLog.checked g.V.Watch.kept in
    let line = c.args.said.line in
    let speaker = c.args.speaker.now in
    let tally = c.args.tally.now in
    subst (λ (told : List ℕ). HasAnswered r line.number c.args.volume.now c.save.new.volume tally tally speaker
    speaker (heard_of line.bytes.now) told) (sym (ap (λ t. t.items) c.of_save.ensures.text))
    (save_answered r line.number c.args.volume.now c.save.new.volume tally speaker line.bytes.now _ (search rules)
    c.in_ok-text-in-Save.ensures)
