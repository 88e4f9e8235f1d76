use Rattle.std.proofs.Common.{ap, ◌∙◌}
use Rattle.lfs_sinks.specs.Sums.{counts_sum}
use Rattle.lfs_audit.proofs.FiledLemmas.{handed_view}
use Rattle.lfs_audit.proofs.filing.FiledVolume.drain.Goals as goal

pub returns-clause-drained : goal.returns-clause-drained
returns-clause-drained g c =
    let v = c.self.inside in
    handed_view c.args.self.now
    (record {
      volume = v.volume;
      sink = v.sink;
      told = v.tally.totals;
      refusals = v.tally.refusals;
      is_open = v.is_open;
    }) c.drain.new.self c.in-Some.totals c.self.view_is c.drain.ensures.drained
    (c.in-Some.ensures ∙ ap (counts_sum v.tally.totals) c.counts.ensures.counted)
