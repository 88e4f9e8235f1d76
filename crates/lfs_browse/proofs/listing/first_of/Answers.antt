use Rattle.std.proofs.Common.{sym, arith}
use Rattle.std.proofs.lemmas.List.{length-take-le, take_all}
use Rattle.lfs_browse.proofs.listing.first_of.Goals as goal

pub slice_bounds-result-end : goal.slice_bounds-result-end
slice_bounds-result-end c =
    sym (length-take-le 106 c.args.names.now (omega (arith, c.if-names-gt-MOST_STATS.true)))

pub returns-then-names-gt-MOST_STATS-clause-few : goal.returns-then-names-gt-MOST_STATS-clause-few
returns-then-names-gt-MOST_STATS-clause-few c =
    let count = length-take-le 106 c.args.names.now (omega (arith, c.if-names-gt-MOST_STATS.true)) in
    omega (arith, count, c.if-names-gt-MOST_STATS.true)

pub returns-else-names-gt-MOST_STATS-clause-first : goal.returns-else-names-gt-MOST_STATS-clause-first
returns-else-names-gt-MOST_STATS-clause-first c = sym (take_all 106 c.args.names.now c.if-names-gt-MOST_STATS.false)
