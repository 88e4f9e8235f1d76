use Rattle.std.proofs.Common.{◌∙◌}
use Rattle.lfs_types.proofs.name.Name.as_bytes.Goals as goal

pub returns-clause-value : goal.returns-clause-value
returns-clause-value c = c.bytes_of.ensures ∙ c.self.view_is
