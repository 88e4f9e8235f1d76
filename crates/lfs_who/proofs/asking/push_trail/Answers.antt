use Rattle.std.proofs.Common.{◌<◌, ◌≤◌, length, min, sym, ap, ◌∙◌, arith}
use Rattle.std.specs.Prelude.{is_some}
use Rattle.lfs_explain.specs.Tables.{step_tests, trail_tests}
use Rattle.lfs_explain.specs.declared.trail.ShownRow.{ShownRow}
use Rattle.lfs_explain.proofs.StepsTold.{told_all, told_more}
use Rattle.lfs_who.specs.Conditions.{all_posed}
use Rattle.lfs_who.proofs.asking.push_trail.Goals as goal

pub loop-at-preserved : goal.loop-at-preserved
loop-at-preserved c who =
    let count = c.min-steps.ensures in
    let before = c.loop-at-test.true in
    let long : c.loop-at.at < min (length c.args.rows.now) c.args.count = omega (arith, count, before) in
    told_more who c.args.path (all_posed who c.args.questions.now.items) (trail_tests who c.args.path 0 c.args.count c.args.rows.now)
    (all_posed who c.loop-at.questions.items) (all_posed who c.step.result)
    (all_posed who c.push.new.questions.items) c.args.rows.now c.loop-at.at c.args.count c.index-rows-at.result
    long c.index-rows-at.is (c.loop-at.invariant who) (c.in_ok-push.ensures who)
    (c.step.ensures who
    ∙ ap (λ (s : ShownRow). step_tests who c.args.path c.loop-at.at s.attrs c.is_some-there.result) (sym c.index-rows-at.is)
    ∙ ap (λ b. step_tests who c.args.path c.loop-at.at c.index-rows-at.result.attrs b) (c.is_some-there.ensures
    ∙ ap is_some c.row_of.ensures))

pub returns : goal.returns
returns c who =
    let count = c.min-steps.ensures in
    let behind = c.loop-at-test.false in
    let over : min (length c.args.rows.now) c.args.count ≤ c.loop-at.at = omega (arith, count, behind) in
    told_all who c.args.path (all_posed who c.args.questions.now.items) (trail_tests who c.args.path 0 c.args.count c.args.rows.now)
    (all_posed who c.loop-at.questions.items) c.args.rows.now c.loop-at.at c.args.count over (c.loop-at.invariant who)
