use Rattle.std.proofs.Common.{rules}
use Rattle.lfs_volume.proofs.volume.Volume.clean_segments.Goals as goal

pub returns : goal.returns
returns g c = search rules
