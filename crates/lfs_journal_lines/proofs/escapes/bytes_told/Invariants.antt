use Rattle.std.proofs.Common.{◌≡◌, length}
use Rattle.lfs_journal_lines.proofs.ReadingLemmas.{behind_bytes}
use Rattle.lfs_journal_lines.specs.Escapes.{bytes_told}
use Rattle.lfs_journal_lines.proofs.escapes.bytes_told.Given as goal

abbrev pub invariant-loop-bytes : goal.invariant-loop-bytes
invariant-loop-bytes l = bytes_told l.fn.text ≡ behind_bytes l.bytes.items (bytes_told l.rest)

abbrev pub decreases-loop-bytes : goal.decreases-loop-bytes
decreases-loop-bytes l = length l.rest
