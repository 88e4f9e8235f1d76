use Rattle.std.proofs.Common.{◌∙◌}
use Rattle.lfs_checks.proofs.LastNames.{last_stands}
use Rattle.lfs_checks.proofs.components.last_name.Goals as goal

pub returns : goal.returns
returns c = record {
  name = c.index-names-names.is
      ∙ last_stands c.args.names.now c.requires c.index-names-names.result;
}
