use Rattle.std.proofs.Common.{take}
use Rattle.std.specs.Io.KnownBytes.{Appends, append_known}
use Rattle.lfs_audit.specs.Threads.{transcript_text}
use Rattle.lfs_audit.proofs.threads.print_transcript.Given as goal

abbrev pub invariant-loop-answer : goal.invariant-loop-answer
invariant-loop-answer g l =
    Appends (append_known (g.W.Write.contents l.fn.writer) l.fn.text.items)
    (append_known (g.W.Write.contents l.writer) l.text.items)
    (transcript_text l.session (take l.answer-index l.answers))
