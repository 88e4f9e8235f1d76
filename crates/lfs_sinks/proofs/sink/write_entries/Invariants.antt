use Rattle.std.proofs.Common.{take}
use Rattle.std.specs.Io.KnownBytes.{Appends, append_known}
use Rattle.lfs_sinks.specs.Numbered.{numbered_text}
use Rattle.lfs_sinks.proofs.sink.write_entries.Given as goal

abbrev pub invariant-loop-place : goal.invariant-loop-place
invariant-loop-place g l =
    Appends (g.W.Write.contents l.fn.writer) (append_known (g.W.Write.contents l.writer) l.text.items)
    (numbered_text l.number (take l.place l.entries))
