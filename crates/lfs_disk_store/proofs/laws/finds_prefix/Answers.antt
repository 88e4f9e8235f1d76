use Rattle.lfs_disk_store.proofs.RunLemmas.{finds_prefix}
use Rattle.lfs_disk_store.proofs.laws.finds_prefix.Goals as goal

pub returns : goal.returns
returns g c = finds_prefix g.D.BlockDisk.time g.D.BlockDisk.left_since
