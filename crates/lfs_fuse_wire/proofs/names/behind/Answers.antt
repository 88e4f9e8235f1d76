use Rattle.std.proofs.lemmas.List.{take_rest}
use Rattle.lfs_fuse_wire.proofs.names.behind.Goals as goal

pub returns : goal.returns
returns c = take_rest c.args.bytes.now c.args.at
