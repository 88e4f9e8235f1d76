-- Each call leaves a tree: no two rows share parent and name, parents are directories and lead to the root, the root is
-- its own parent and has the empty name, and directories have no bytes.
use Rattle.lfs_model.specs.World.{IsTree}
use Rattle.lfs_laws.specs.Rights.{Law}

-- a call leaves a tree
abbrev pub LeavesTree : Law
LeavesTree numbers w caller request answer after = IsTree after.rows
