use Rattle.std.proofs.Common.{◌≤◌, get_or, refl, arith}
use Rattle.std.proofs.lemmas.List.{get_or_default}
use Rattle.std.proofs.lemmas.List.Elements.{Contains-get_or}
use Rattle.lfs_recovery.specs.declared.places.PartialSegment.{PartialSegment}
use Rattle.lfs_durable.proofs.ListLemmas.{listed_logged}
use Rattle.lfs_rescue.proofs.WipingLemmas.{ends_all, ends_first, ends_more, stands_at}
use Rattle.lfs_rescue.proofs.wiping.raise_all.Goals as goal

-- what a read of the list has behind its end
abbrev none : PartialSegment
none = record { serial = 0; address = 0; count = 0 }

pub loop-index-init : goal.loop-index-init
loop-index-init c = ends_first c.args.memory.now c.args.partials.now c.args.ends.now c.requires.long c.requires.starts

pub raise-requires-clause-inside : goal.raise-requires-clause-inside
raise-requires-clause-inside c =
    let at = stands_at c.args.memory.now c.args.partials.now c.loop-index.index none c.requires.logs
    c.loop-index-test.true in
    let below = at.below in
    let long = c.loop-index.invariant.long in
    omega arith

pub raise-requires-clause-end : goal.raise-requires-clause-end
raise-requires-clause-end c =
    let at = stands_at c.args.memory.now c.args.partials.now c.loop-index.index none c.requires.logs
    c.loop-index-test.true in
    let below = at.below in
    let high = at.high in
    let most = c.requires.laid_out.at_most in
    omega arith

pub loop-index-preserved : goal.loop-index-preserved
loop-index-preserved c =
    let m = c.args.memory.now in
    let ps = c.args.partials.now in
    let k = c.loop-index.index in
    let below = c.loop-index-test.true in
    ends_more m ps k c.loop-index.ends c.raise.new.ends (get_or ps k none) _ c.loop-index.invariant
    (λ d. get_or_default ps k d none below)
    (listed_logged m ps (get_or ps k none) c.requires.logs (Contains-get_or ps k none below))
    (stands_at m ps k none c.requires.logs below).below c.raise.ensures.long refl c.raise.ensures.others
    c.raise.ensures.above c.raise.ensures.behind c.raise.ensures.one

pub returns-clause-ends : goal.returns-clause-ends
returns-clause-ends c =
    ends_all c.args.memory.now c.args.partials.now c.loop-index.index c.loop-index.ends c.requires.logs
    c.loop-index.invariant (omega arith)
