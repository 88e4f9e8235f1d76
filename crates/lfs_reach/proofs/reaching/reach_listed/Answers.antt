use Rattle.std.proofs.Common.{◌≡◌}
use Rattle.lfs_dirs.specs.Reading.{entries_of}
use Rattle.lfs_reach.proofs.WalkLemmas.{among_all, among_first, among_passed, among_reached}
use Rattle.lfs_reach.proofs.reaching.reach_listed.Goals as goal

pub loop-number-init : goal.loop-number-init
loop-number-init c =
    let same : c.into_iter-number-iterator.result ≡ entries_of c.args.block.now = cc in
    record {
      can_next = tt;
      is_finite = tt;
      walk = c.requires;
      among = among_first (entries_of c.args.block.now) _ c.args.order.now.items same;
    }

pub reach-requires-clause-walk : goal.reach-requires-clause-walk
reach-requires-clause-walk c = c.loop-number.invariant.walk

pub loop-number-preserved-in-Continue-1 : goal.loop-number-preserved-in-Continue-1
loop-number-preserved-in-Continue-1 c = record {
  can_next = tt;
  is_finite = tt;
  walk = c.in_ok-reach.ensures.walk;
  among = among_reached (entries_of c.args.block.now) _ _ _ c.args.order.now.items c.loop-number.order.items _ c.in-Some.ensures.steps
      c.if-number-lt-MOST_INODES.true c.loop-number.invariant.among c.in_ok-reach.ensures.added;
}

pub loop-number-preserved : goal.loop-number-preserved
loop-number-preserved c = record {
  can_next = tt;
  is_finite = tt;
  walk = c.loop-number.invariant.walk;
  among = among_passed (entries_of c.args.block.now) _ _ _ c.args.order.now.items c.loop-number.order.items c.in-Some.ensures.steps
      c.if-number-lt-MOST_INODES.false c.loop-number.invariant.among;
}

pub returns-clause-walk : goal.returns-clause-walk
returns-clause-walk c = c.loop-number.invariant.walk

pub returns-clause-added : goal.returns-clause-added
returns-clause-added c =
    among_all (entries_of c.args.block.now) _ c.args.order.now.items c.loop-number.order.items c.in-None.ensures.steps.0
    c.loop-number.invariant.among
