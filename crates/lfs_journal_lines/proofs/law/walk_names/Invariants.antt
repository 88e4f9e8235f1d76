use Rattle.std.proofs.Common.{take}
use Rattle.std.specs.List.{All}
use Rattle.lfs_journal_lines.specs.Ranges.{IsName}
use Rattle.lfs_journal_lines.proofs.law.walk_names.Given as goal

abbrev pub invariant-loop-name : goal.invariant-loop-name
invariant-loop-name l = All IsName (take l.name-index l.names)
