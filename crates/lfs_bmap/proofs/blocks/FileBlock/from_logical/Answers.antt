use Rattle.std.proofs.Common.{sym, ap}
use Rattle.lfs_bmap.specs.Blocks.{file_block_of}
use Rattle.lfs_bmap.proofs.blocks.FileBlock.from_logical.Goals as goal

pub returns-in-Inodes : goal.returns-in-Inodes
returns-in-Inodes c = sym (ap file_block_of c.in-Inodes.is)
