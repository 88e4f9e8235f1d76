use Rattle.std.proofs.Common.{ℕ, ◌+◌, List, drop, sym, ap, ◌∙◌}
use Rattle.lfs_types.specs.declared.rule.Denial.{Denial}
use Rattle.std.specs.Prelude.{Option}
use Rattle.lfs_model.specs.Rules.{Check, first_failing}
use Rattle.lfs_why.specs.WhyText.{paths_of, with_check, with_checks, with_verdict}
use Rattle.lfs_why.proofs.LineLemmas.{line_next, lines_all}
use Rattle.lfs_why.proofs.lines.tell_explanation.Goals as goal

pub loop-check-preserved : goal.loop-check-preserved
loop-check-preserved c =
    let at = c.loop-check.check-index in
    let caller = c.args.cred.now in
    let paths = paths_of c.args.request.now c.args.explanation.now in
    ap (λ (out : List ℕ). with_checks out caller paths (drop (at + 1) c.args.explanation.now.checks.items))
    c.in_ok-push_check.ensures
    ∙ ap (λ (l : List Check). with_checks (with_check c.loop-check.text.items caller paths c.check-item.result) caller
    paths (drop (at + 1) l)) (sym c.deref-check-items.ensures.value)
    ∙ sym (line_next caller paths c.loop-check.text.items c.deref-check-items.result.now at c.check-item.result
    c.loop-check-test.true c.check-item.is)
    ∙ ap (λ (l : List Check). with_checks c.loop-check.text.items caller paths (drop at l))
    c.deref-check-items.ensures.value
    ∙ c.loop-check.invariant

pub returns : goal.returns
returns c =
    let at = c.loop-check.check-index in
    let caller = c.args.cred.now in
    let paths = paths_of c.args.request.now c.args.explanation.now in
    c.in_ok-push_verdict.ensures
    ∙ ap (λ (d : Option Denial). with_verdict c.loop-check.text.items d) c.verdict.ensures
    ∙ ap (λ (out : List ℕ). with_verdict out (first_failing c.args.explanation.now.checks.items))
    (sym (lines_all caller paths c.loop-check.text.items c.deref-check-items.result.now at c.loop-check-test.false)
    ∙ ap (λ (l : List Check). with_checks c.loop-check.text.items caller paths (drop at l))
    c.deref-check-items.ensures.value
    ∙ c.loop-check.invariant)
