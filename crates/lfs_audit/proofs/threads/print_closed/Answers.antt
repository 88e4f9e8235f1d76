use Rattle.std.proofs.Common.{◌≡◌, List, map, refl, subst}
use Rattle.std.specs.Global.{Vec}
use Rattle.std.specs.Io.KnownBytes.{Appends, append_known}
use Rattle.lfs_types.specs.declared.answer.Answer.{Answer}
use Rattle.lfs_audit.specs.Threads.{answers_of, transcripts_text}
use Rattle.lfs_sinks.specs.Refusals.{refusals_of}
use Rattle.lfs_audit.proofs.ThreadLemmas.{closed_written}
use Rattle.lfs_audit.proofs.threads.print_closed.Goals as goal

pub returns-clause-written : goal.returns-clause-written
returns-clause-written g c =
    let closed = c.args.closed.now in
    let sessions = subst (λ (ts : List (Vec Answer)).
    Appends (append_known (g.W.Write.contents c.print_transcript.new.writer) c.print_transcript.new.text.items)
    (append_known (g.W.Write.contents c.print_transcripts.new.writer) c.print_transcripts.new.text.items)
    (transcripts_text 1 (map (λ (t : Vec Answer). t.items) ts))) c.as_slice-2.ensures.value
    c.in_ok-print_transcripts.ensures.written in
    let told = c.in_ok-print_report.ensures.written in
    let counted = subst (λ (s : List Answer). c.refusals_of-refusals.result
    ≡ refusals_of (answers_of s (map (λ (t : Vec Answer). t.items) closed.transcripts.items)))
    c.as_slice-3.ensures.value
    (subst (λ (ts : List (Vec Answer)). c.refusals_of-refusals.result
    ≡ refusals_of (answers_of c.as_slice-3.result.now (map (λ (t : Vec Answer). t.items) ts)))
    c.as_slice-4.ensures.value c.refusals_of-refusals.ensures) in
    closed_written closed.volume.journal closed.setup.items c.as_slice.result.now
    (map (λ (t : Vec Answer). t.items) closed.transcripts.items) c.refusals_of-refusals.result _ _ _ _ _
    c.print_transcript.new.text.items c.print_transcripts.new.text.items _
    c.as_slice.ensures.value c.new-text.ensures.items c.in_ok-print_transcript.ensures.written refl sessions counted told.1
