use Rattle.std.proofs.Common.{◌∙◌}
use Rattle.lfs_fuse_wire.proofs.Places.{number_at-read}
use Rattle.lfs_fuse_wire.proofs.numbers.long_at.Goals as goal

pub returns : goal.returns
returns c = c.read_u64.ensures ∙ number_at-read 8 c.args.at c.args.bytes.now
