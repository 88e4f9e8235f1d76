-- What is read of a node.
use Rattle.std.specs.Prelude.{ℕ, Option}
use Rattle.std.specs.Option.{option_map}
use Rattle.lfs_nodes.specs.declared.node.Hang.{Hang}
use Rattle.lfs_nodes.specs.declared.node.Node.{Node}

-- where a node hangs
abbrev pub hang_in : Option Node → Option Hang
hang_in o = option_map (λ n. n.hang) o

-- the inode number of its row
abbrev pub number_in : Option Node → Option ℕ
number_in o = option_map (λ n. n.row) o

-- how many nodes hang beneath it
abbrev pub children_in : Option Node → Option ℕ
children_in o = option_map (λ n. n.children) o
