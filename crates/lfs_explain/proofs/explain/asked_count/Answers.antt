use Rattle.std.proofs.Common.{◌≡◌, length, take, sym, ap, ◌∙◌, arith}
use Rattle.lfs_explain.proofs.StepsTold.{asks_all, asks_last, asks_next}
use Rattle.lfs_explain.proofs.explain.asked_count.Goals as goal

pub loop-at-preserved : goal.loop-at-preserved
loop-at-preserved c = asks_next c.args.checks.now c.loop-at.at c.index-checks-at.result c.loop-at-test.true
    c.index-checks-at.is (sym c.if-not-is_met.ensures) c.loop-at.invariant

pub returns-then-not-is_met : goal.returns-then-not-is_met
returns-then-not-is_met c = asks_last c.args.checks.now c.loop-at.at c.index-checks-at.result c.loop-at-test.true
    c.index-checks-at.is (sym c.if-not-is_met.ensures) c.loop-at.invariant

pub returns : goal.returns
returns c =
    let over = c.loop-at-test.false in
    let within = c.loop-at.auto.at-end in
    let whole : c.loop-at.at ≡ length c.args.checks.now = omega (arith, over, within) in
    ap (λ k. take k c.args.checks.now) (sym whole) ∙ asks_all c.args.checks.now c.loop-at.at whole c.loop-at.invariant
