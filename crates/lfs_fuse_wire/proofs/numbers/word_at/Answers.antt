use Rattle.std.proofs.Common.{◌∙◌}
use Rattle.lfs_fuse_wire.proofs.Places.{number_at-read}
use Rattle.lfs_fuse_wire.proofs.numbers.word_at.Goals as goal

pub returns : goal.returns
returns c = c.read_u32.ensures ∙ number_at-read 4 c.args.at c.args.bytes.now
