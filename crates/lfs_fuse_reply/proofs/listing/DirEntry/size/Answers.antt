use Rattle.lfs_fuse_reply.proofs.Lengths.{length-dirent}
use Rattle.lfs_fuse_reply.proofs.listing.DirEntry.size.Goals as goal

pub returns-clause-bytes : goal.returns-clause-bytes
returns-clause-bytes c = length-dirent c.args.self.now c.padding.result c.padding.ensures.count
