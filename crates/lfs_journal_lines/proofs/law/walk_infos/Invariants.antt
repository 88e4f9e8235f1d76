use Rattle.std.proofs.Common.{take}
use Rattle.std.specs.List.{All}
use Rattle.lfs_words.specs.Infos.{IsShortInfo}
use Rattle.lfs_journal_lines.proofs.law.walk_infos.Given as goal

abbrev pub invariant-loop-info : goal.invariant-loop-info
invariant-loop-info l = All IsShortInfo (take l.info-index l.infos)
