use Rattle.std.proofs.Common.{◌<◌, length, rules}
use Rattle.lfs_flatfiles.proofs.FlatFilesSplice.{splice_filled}
use Rattle.lfs_opens.proofs.rewriting.splice.Goals as goal

pub returns : goal.returns
returns c =
    let some : 0 < length c.args.bytes.now = search rules in
    rw (c.overwrite.ensures, c.fill_up.ensures) (splice_filled c.args.old.now.items c.args.start c.args.bytes.now some)
