use Rattle.std.proofs.Common.{sym}
use Rattle.lfs_inodes.proofs.AddressLemmas.{slice_index-double}
use Rattle.lfs_inodes.proofs.addresses.double_address.Goals as goal

pub returns : goal.returns
returns c = sym (slice_index-double c.args.inode.now)
