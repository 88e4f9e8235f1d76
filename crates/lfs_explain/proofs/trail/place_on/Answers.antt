use Rattle.lfs_explain.proofs.StepsTold.{any_end, any_here, any_past, place_end, place_here, place_past}
use Rattle.lfs_explain.proofs.trail.place_on.Goals as goal

pub loop-at-preserved : goal.loop-at-preserved
loop-at-preserved c = record {
  is_on = any_past c.args.rows.now c.loop-at.at c.args.number c.index-rows-at.result c.loop-at-test.true
      c.index-rows-at.is _ c.if-row-number.false c.loop-at.invariant.is_on;
  place = place_past c.args.rows.now c.loop-at.at c.args.number c.index-rows-at.result c.loop-at-test.true
      c.index-rows-at.is _ c.if-row-number.false c.loop-at.invariant.place;
}

pub returns-then-row-number : goal.returns-then-row-number
returns-then-row-number c = record {
  is_on = any_here c.args.rows.now c.loop-at.at c.args.number c.index-rows-at.result c.loop-at-test.true
      c.index-rows-at.is _ c.if-row-number.true c.loop-at.invariant.is_on;
  place = place_here c.args.rows.now c.loop-at.at c.args.number c.index-rows-at.result c.loop-at-test.true
      c.index-rows-at.is _ c.if-row-number.true c.loop-at.invariant.place;
}

pub returns : goal.returns
returns c = record {
  is_on = any_end c.args.rows.now c.loop-at.at c.args.number c.loop-at-test.false _ c.loop-at.invariant.is_on;
  place = place_end c.args.rows.now c.loop-at.at c.args.number c.loop-at-test.false _ c.loop-at.auto.at-end
      c.loop-at.invariant.place;
}
