use Rattle.std.proofs.Common.{ap, arith, length, ◌∙◌}
use Rattle.lfs_sinks.specs.Sums.{counts_sum}
use Rattle.lfs_audit.proofs.WindowLemmas.{dropped_here}
use Rattle.lfs_audit.proofs.window.drop_entries.Goals as goal

pub returns-then-window-limit-clause-dropped : goal.returns-then-window-limit-clause-dropped
returns-then-window-limit-clause-dropped g c =
    let state = g.F.FileStore.state in
    let old = c.args.volume.now in
    let new = c.limit_journal.new.self in
    let drained = c.drain.ensures.drained in
    let limited = c.limit_journal.ensures in
    dropped_here state old new c.args.window.now.tally.totals c.in-Some.totals c.args.window.now.left _
    (ap (λ v. v.store) limited ∙ ap (λ v. v.store) drained) (ap (λ v. v.journal) limited ∙ ap (λ v. v.journal) drained)
    (ap (λ v. v.since) limited ∙ ap (λ v. v.since) drained)
    (ap (λ v. v.since_level) limited ∙ ap (λ v. v.since_level) drained) c.counts.ensures.legal
    (c.in-Some.ensures ∙ ap (counts_sum c.args.window.now.tally.totals) c.counts.ensures.counted)
    (omega (arith, c.journal.ensures.within, c.requires.more, ap length c.journal.ensures.entries))

pub returns-else-window-limit-clause-dropped : goal.returns-else-window-limit-clause-dropped
returns-else-window-limit-clause-dropped g c =
    let state = g.F.FileStore.state in
    let old = c.args.volume.now in
    let drained = c.drain.ensures.drained in
    dropped_here state old c.drain.new.self c.args.window.now.tally.totals c.in-Some.totals c.args.window.now.left _
    (ap (λ v. v.store) drained) (ap (λ v. v.journal) drained) (ap (λ v. v.since) drained)
    (ap (λ v. v.since_level) drained) c.counts.ensures.legal
    (c.in-Some.ensures ∙ ap (counts_sum c.args.window.now.tally.totals) c.counts.ensures.counted)
    (omega (arith, c.journal.ensures.within, c.requires.more, ap length c.journal.ensures.entries))
