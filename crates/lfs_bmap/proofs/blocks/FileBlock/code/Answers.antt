use Rattle.std.proofs.Common.{sym, ap}
use Rattle.lfs_bmap.specs.Blocks.{code_of}
use Rattle.lfs_bmap.proofs.blocks.FileBlock.code.Goals as goal

pub returns-in-Single : goal.returns-in-Single
returns-in-Single c = sym (ap code_of c.in-Single.is)
