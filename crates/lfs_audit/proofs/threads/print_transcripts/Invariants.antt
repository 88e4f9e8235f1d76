use Rattle.std.proofs.Common.{map, take}
use Rattle.std.specs.Global.{Vec}
use Rattle.std.specs.Io.KnownBytes.{Appends, append_known}
use Rattle.lfs_types.specs.declared.answer.Answer.{Answer}
use Rattle.lfs_audit.specs.Threads.{transcripts_text}
use Rattle.lfs_audit.proofs.threads.print_transcripts.Given as goal

abbrev pub invariant-loop-index : goal.invariant-loop-index
invariant-loop-index g l =
    Appends (append_known (g.W.Write.contents l.fn.writer) l.fn.text.items)
    (append_known (g.W.Write.contents l.writer) l.text.items)
    (transcripts_text 1 (take l.index (map (λ (transcript : Vec Answer). transcript.items) l.transcripts)))
