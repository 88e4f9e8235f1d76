use Rattle.std.proofs.Common.{sym, ap}
use Rattle.lfs_bmap.specs.Blocks.{logical_of}
use Rattle.lfs_bmap.proofs.blocks.FileBlock.logical.Goals as goal

pub returns-in-Record : goal.returns-in-Record
returns-in-Record c = sym (ap logical_of c.in-Record.is)
