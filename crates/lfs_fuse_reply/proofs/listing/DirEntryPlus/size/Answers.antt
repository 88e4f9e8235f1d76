use Rattle.std.proofs.Common.{length-append, arith}
use Rattle.lfs_fuse_reply.specs.Listings.{dirent_bytes, looked_up_bytes}
use Rattle.lfs_fuse_reply.proofs.Lengths.{length-looked_up}
use Rattle.lfs_fuse_reply.proofs.listing.DirEntryPlus.size.Goals as goal

pub returns-clause-bytes : goal.returns-clause-bytes
returns-clause-bytes c =
    let e = c.args.self.now in
    omega (
      arith,
      length-append (looked_up_bytes e.entry) (dirent_bytes e.dirent),
      length-looked_up e.entry,
      c.size.ensures.bytes,
    )
