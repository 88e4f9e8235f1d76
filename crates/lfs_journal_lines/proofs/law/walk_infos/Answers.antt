use Rattle.std.proofs.Common.{subst}
use Rattle.std.specs.List.{All}
use Rattle.std.proofs.lemmas.List.{take_all}
use Rattle.std.proofs.lemmas.List.Elements.{All-more}
use Rattle.lfs_words.specs.Infos.{IsShortInfo}
use Rattle.lfs_journal_lines.proofs.law.walk_infos.Goals as goal

pub loop-info-preserved : goal.loop-info-preserved
loop-info-preserved c =
    All-more IsShortInfo c.args.infos.now c.loop-info.info-index _ c.loop-info-test.true c.loop-info.invariant
    c.walk_info.ensures

pub returns : goal.returns
returns c =
    subst (All IsShortInfo) (take_all c.loop-info.info-index c.args.infos.now c.loop-info-test.false)
    c.loop-info.invariant
