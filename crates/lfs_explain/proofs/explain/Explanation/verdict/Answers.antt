use Rattle.std.proofs.Common.{◌+◌, List, Some, drop, sym, ap, ◌∙◌}
use Rattle.lfs_model.specs.Rules.{Check, first_failing}
use Rattle.lfs_explain.proofs.StepsTold.{failing_here, failing_next, failing_none}
use Rattle.lfs_explain.proofs.explain.Explanation.verdict.Goals as goal

pub loop-check-preserved : goal.loop-check-preserved
loop-check-preserved c =
    let at = c.loop-check.check-index in
    c.loop-check.invariant
    ∙ ap (λ (l : List Check). first_failing (drop at l)) (sym c.deref-check-items.ensures.value)
    ∙ failing_next c.deref-check-items.result.now at c.check-item.result c.loop-check-test.true c.check-item.is
    (sym c.if-not-is_met.ensures)
    ∙ ap (λ (l : List Check). first_failing (drop (at + 1) l)) c.deref-check-items.ensures.value

pub returns-then-not-is_met : goal.returns-then-not-is_met
returns-then-not-is_met c =
    let at = c.loop-check.check-index in
    ap Some c.denial.ensures
    ∙ sym (c.loop-check.invariant
    ∙ ap (λ (l : List Check). first_failing (drop at l)) (sym c.deref-check-items.ensures.value)
    ∙ failing_here c.deref-check-items.result.now at c.check-item.result c.loop-check-test.true c.check-item.is
    (sym c.if-not-is_met.ensures))

pub returns : goal.returns
returns c =
    let at = c.loop-check.check-index in
    sym (c.loop-check.invariant
    ∙ ap (λ (l : List Check). first_failing (drop at l)) (sym c.deref-check-items.ensures.value)
    ∙ failing_none c.deref-check-items.result.now at c.loop-check-test.false)
