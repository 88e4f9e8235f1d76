use Rattle.std.proofs.Common.{subst}
use Rattle.std.specs.List.{All}
use Rattle.std.proofs.lemmas.List.{take_all}
use Rattle.std.proofs.lemmas.List.Elements.{All-more}
use Rattle.lfs_words.specs.Infos.{IsShortInfo}
use Rattle.lfs_words.proofs.InfoBack.{info_more, infos_back, infos_spelled}
use Rattle.lfs_words.proofs.info.spell_infos.Goals as goal

pub loop-info-preserved : goal.loop-info-preserved
loop-info-preserved c = record {
  spelled =
      info_more c.args.out.now.items c.loop-info.out.items c.push_info.new.out.items c.args.infos.now
      c.loop-info.info-index _ c.loop-info-test.true c.loop-info.invariant.spelled c.in_ok-push_info.ensures.spelled;
  short =
      All-more IsShortInfo c.args.infos.now c.loop-info.info-index _ c.loop-info-test.true
      c.loop-info.invariant.short c.in_ok-push_info.ensures.short;
}

pub returns-clause-spelled : goal.returns-clause-spelled
returns-clause-spelled c =
    infos_spelled c.args.out.now.items c.loop-info.out.items c.args.infos.now c.loop-info.info-index
    c.loop-info-test.false c.loop-info.invariant.spelled

pub returns-clause-back : goal.returns-clause-back
returns-clause-back c =
    infos_back c.args.infos.now
    (subst (All IsShortInfo) (take_all c.loop-info.info-index c.args.infos.now c.loop-info-test.false)
    c.loop-info.invariant.short)
