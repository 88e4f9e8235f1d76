use Rattle.std.proofs.Common.{◌<◌, length, refl, sym, subst, arith}
use Rattle.std.proofs.lemmas.List.{get_or_read}
use Rattle.lfs_rescue.specs.Building.{IsLogEnd}
use Rattle.lfs_rescue.proofs.BuildLemmas.{stands_within}
use Rattle.lfs_rescue.proofs.WipingLemmas.{zeros_more}
use Rattle.lfs_rescue.proofs.wiping.zeros_from.Goals as goal

pub zeros_in-requires-clause-end : goal.zeros_in-requires-clause-end
zeros_in-requires-clause-end c =
    let at = stands_within c.args.memory.now c.args.last.now c.requires.logged in
    let below = at.below in
    let high = at.high in
    let most = c.segments-segment-end.ensures.laid_out.at_most in
    omega arith

pub loop-segment-preserved : goal.loop-segment-preserved
loop-segment-preserved c =
    let m = c.args.memory.now in
    let s = c.loop-segment.segment in
    let ends = c.in_ok-ends.ends.items in
    let low : s < m.segments = omega (arith, c.segments-segment-end.ensures.segments, c.loop-segment-test.true) in
    let inside : s < length ends = omega (arith, c.in_ok-ends.ensures.long) in
    let end = get_or_read ends s c.index.result.now inside c.index.ensures 0 in
    record {
      many = omega (arith, c.in_ok-push.ensures.len);
      told = zeros_more m c.args.last.now c.args.live.now c.loop-segment.from.items c.push.new.self.items s
          c.zeros_in.result c.in_ok-push.ensures.items c.loop-segment.invariant.many c.loop-segment.invariant.told
          (c.zeros_in.ensures m c.args.live.now refl
          (subst (IsLogEnd m s) (sym end) (c.in_ok-ends.ensures.ends s low)));
    }
