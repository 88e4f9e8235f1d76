use Rattle.std.proofs.Common.{subst, arith}
use Rattle.std.proofs.lemmas.List.{take_all}
use Rattle.lfs_segwrite.specs.Marking.{StagesNamed}
use Rattle.lfs_segwrite.proofs.StagesLemmas.{stages_frames, stages_more, stages_named, stages_none, stages_records}
use Rattle.lfs_segwrite.proofs.marking.stage_named.Goals as goal

pub loop-info-init : goal.loop-info-init
loop-info-init c = stages_none c.args.parts.now c.requires.staged c.requires.flushed

pub stage_info-requires-clause-staged : goal.stage_info-requires-clause-staged
stage_info-requires-clause-staged c = c.loop-info.invariant.staged

pub stage_info-requires-clause-named : goal.stage_info-requires-clause-named
stage_info-requires-clause-named c =
    stages_named c.args.parts.now c.loop-info.parts c.args.named.now c.loop-info.info-index c.loop-info-test.true
    c.loop-info.invariant _ c.requires.named

pub stage_info-requires-clause-frames : goal.stage_info-requires-clause-frames
stage_info-requires-clause-frames c =
    let frames = stages_frames c.args.parts.now c.loop-info.parts c.args.named.now c.loop-info.info-index
    c.loop-info-test.true c.loop-info.invariant in
    let few = c.requires.few in
    omega arith

pub stage_info-requires-clause-records : goal.stage_info-requires-clause-records
stage_info-requires-clause-records c =
    let records = stages_records c.args.parts.now c.loop-info.parts c.args.named.now c.loop-info.info-index
    c.loop-info-test.true c.loop-info.invariant in
    let few = c.requires.few in
    omega arith

pub loop-info-preserved : goal.loop-info-preserved
loop-info-preserved c =
    stages_more c.args.parts.now c.loop-info.parts c.args.named.now c.loop-info.info-index c.loop-info-test.true
    c.loop-info.invariant c.stage_info.new.parts _
    c.requires.named c.stage_info.ensures.staged c.stage_info.ensures.again

pub returns : goal.returns
returns c =
    subst (λ infos. StagesNamed infos c.args.parts.now c.loop-info.parts)
    (take_all c.loop-info.info-index c.args.named.now (omega arith)) c.loop-info.invariant
