-- What holds a node.
use Rattle.std.specs.Prelude.{ℕ, ◌||◌, nat_lt, Bool, true, false, Option, None, Some}
use Rattle.lfs_types.specs.Tree.{root}
use Rattle.lfs_nodes.specs.declared.node.Hang.{Hang}
use Rattle.lfs_nodes.specs.declared.node.Hang.TheVariants.{Root, At, Gone}
use Rattle.lfs_nodes.specs.declared.node.Node.{Node}

abbrev pub is_root : Hang → Bool
is_root Root = true
is_root (At place) = false
is_root Gone = false

-- the root is held, and what has a look-up, a handle or a node beneath it
abbrev pub node_is_held : Node → Bool
node_is_held n = is_root n.hang || nat_lt 0 n.look_ups || nat_lt 0 n.handles || nat_lt 0 n.children

abbrev pub is_held : Option Node → Bool
is_held None = false
is_held (Some n) = node_is_held n

-- a node of a row with one look-up
abbrev pub fresh : Hang → ℕ → Node
fresh hang row = record { hang = hang; row = row; look_ups = 1; handles = 0; children = 0 }

-- whether the kernel holds a node, or it is the root: a node that is held so isn't dropped for what hangs beneath it
abbrev pub is_known_held : Option Node → Bool
is_known_held None = false
is_known_held (Some n) = is_root n.hang || nat_lt 0 n.look_ups || nat_lt 0 n.handles

-- the root's node
abbrev pub root_node : Node
root_node = record { hang = Root; row = root; look_ups = 1; handles = 0; children = 0 }
