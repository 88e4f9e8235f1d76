use Rattle.std.proofs.Common.{subst}
use Rattle.std.specs.List.{All}
use Rattle.std.proofs.lemmas.List.{take_all}
use Rattle.std.proofs.lemmas.List.Elements.{All-more}
use Rattle.lfs_journal_lines.specs.Ranges.{IsName}
use Rattle.lfs_journal_lines.proofs.law.walk_names.Goals as goal

pub loop-name-preserved : goal.loop-name-preserved
loop-name-preserved c =
    All-more IsName c.args.names.now c.loop-name.name-index c.name-item.result c.loop-name-test.true
    c.loop-name.invariant
    (subst IsName c.name-item.is c.walk_name.ensures)

pub returns : goal.returns
returns c =
    subst (All IsName) (take_all c.loop-name.name-index c.args.names.now c.loop-name-test.false) c.loop-name.invariant
