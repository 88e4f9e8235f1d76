use Rattle.std.proofs.Common.{◌≡◌, length}
use Rattle.lfs_journal_lines.specs.Numbering.{behind}
use Rattle.lfs_journal_lines.proofs.numbering.behind.Given as goal

abbrev pub invariant-loop-first : goal.invariant-loop-first
invariant-loop-first l = behind l.fn.mark l.fn.text ≡ behind l.wanted l.rest

abbrev pub decreases-loop-first : goal.decreases-loop-first
decreases-loop-first l = length l.wanted
