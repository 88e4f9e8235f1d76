use Rattle.std.proofs.Common.{◌<◌, length, rules}
use Rattle.lfs_flatfiles.proofs.FlatFilesSplice.{splice_filled}
use Rattle.lfs_flatfiles.proofs.flat_files.place.splice.Goals as goal

pub returns-clause-spliced : goal.returns-clause-spliced
returns-clause-spliced c =
    let some : 0 < length c.args.bytes.now = search rules in
    rw (c.overwrite.ensures.written, c.fill_up.ensures.filled)
    (splice_filled c.args.old.now.items c.args.off c.args.bytes.now some)
