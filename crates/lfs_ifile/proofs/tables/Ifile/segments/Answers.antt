use Rattle.std.proofs.Common.{length, ap, ◌∙◌}
use Rattle.lfs_ifile.specs.Tables.{Tables}
use Rattle.lfs_ifile.proofs.tables.Ifile.segments.Goals as goal

pub returns-clause-value : goal.returns-clause-value
returns-clause-value c = c.len.ensures ∙ (c.self.inside.live.ok.0 ∙ ap (λ (t : Tables). length t.live) c.self.view_is)
