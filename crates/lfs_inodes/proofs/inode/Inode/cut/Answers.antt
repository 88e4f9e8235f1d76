use Rattle.std.proofs.Common.{◌∙◌, ap}
use Rattle.lfs_inodes.specs.Addresses.{addresses, kept_roots}
use Rattle.lfs_inodes.proofs.CutLemmas.{cut_roots}
use Rattle.lfs_inodes.proofs.inode.Inode.cut.Goals as goal

pub returns-clause-addresses : goal.returns-clause-addresses
returns-clause-addresses c =
    let v = c.args.self.now in
    let n = c.blocks-count.result in
    cut_roots v c.cut_direct-kept.result c.kept_if.result c.kept_if-2.result n c.cut_direct-kept.ensures
    c.kept_if.ensures c.kept_if-2.ensures
    ∙ ap (λ m. kept_roots m (addresses v)) c.blocks-count.ensures
