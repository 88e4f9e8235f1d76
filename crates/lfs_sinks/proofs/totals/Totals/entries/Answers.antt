use Rattle.std.proofs.Common.{◌∙◌}
use Rattle.lfs_sinks.proofs.SumLemmas.{totals_length}
use Rattle.lfs_sinks.proofs.totals.Totals.entries.Goals as goal

pub returns : goal.returns
returns c = λ handed is. totals_length _ handed (c.self.view_is ∙ is)
