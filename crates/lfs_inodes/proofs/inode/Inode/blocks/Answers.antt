use Rattle.lfs_inodes.proofs.inode.Inode.blocks.Goals as goal

pub returns-clause-count : goal.returns-clause-count
returns-clause-count c = c.blocks-2.ensures
