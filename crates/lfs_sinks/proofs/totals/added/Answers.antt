use Rattle.std.proofs.Common.{ℕ, List, ap, ◌+◌, ◌∙◌, set, get_or, take, arith}
use Rattle.lfs_sinks.specs.Sums.{sums}
use Rattle.lfs_sinks.proofs.SumLemmas.{sums_more}
use Rattle.lfs_sinks.proofs.totals.added.Goals as goal

pub loop-place-preserved : goal.loop-place-preserved
loop-place-preserved c =
    let i = c.loop-place.place in
    let numbers = c.args.numbers.now in
    let others = c.args.others.now in
    ap (λ (l : List ℕ). set l i (get_or numbers i 0 + c.from.result)) c.loop-place.invariant
    ∙ ap (λ (n : ℕ). set (sums numbers (take i others)) i (get_or numbers i 0 + n)) c.from.ensures
    ∙ sums_more numbers others i (omega (arith, c.loop-place-test.true, c.told-numbers))
    (omega (arith, c.loop-place-test.true, c.told-others))
