use Rattle.std.proofs.Common.{rules}
use Rattle.lfs_volume.proofs.volume.Volume.attrs.Goals as goal

pub returns-clause-attrs : goal.returns-clause-attrs
returns-clause-attrs g c = search rules

pub returns-clause-legal : goal.returns-clause-legal
returns-clause-legal g c = search rules
