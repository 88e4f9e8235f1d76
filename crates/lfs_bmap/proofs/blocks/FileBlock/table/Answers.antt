use Rattle.std.proofs.Common.{sym}
use Rattle.lfs_bmap.proofs.HolderLemmas.{table_of-none}
use Rattle.lfs_bmap.proofs.blocks.FileBlock.table.Goals as goal

pub returns-in-None : goal.returns-in-None
returns-in-None c = sym (table_of-none c.args.self c.requires c.in-None.ensures.way)
