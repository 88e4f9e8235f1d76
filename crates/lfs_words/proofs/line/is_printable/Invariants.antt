use Rattle.std.proofs.Common.{◌≡◌, take}
use Rattle.lfs_words.specs.Lines.{is_printable}
use Rattle.lfs_words.proofs.line.is_printable.Given as goal

abbrev pub invariant-loop-byte : goal.invariant-loop-byte
invariant-loop-byte l = l.printable ≡ is_printable (take l.byte-index l.line)
