-- What changes make of a node.
use Rattle.std.specs.Prelude.{ℕ, ◌+◌, ◌-◌, min}
use Rattle.lfs_nodes.specs.declared.node.Hang.{Hang}
use Rattle.lfs_nodes.specs.declared.node.Node.{Node}

abbrev pub hung : Hang → Node → Node
hung hang n = record n { hang = hang }

-- the count ends at the largest number
abbrev pub one_child_more : Node → Node
one_child_more n = record n { children = min (n.children + 1) 0xFFFF_FFFF_FFFF_FFFF }

abbrev pub one_child_fewer : Node → Node
one_child_fewer n = record n { children = n.children - 1 }

abbrev pub counted : ℕ → Node → Node
counted look_ups n = record n { look_ups = look_ups }

abbrev pub opened : ℕ → Node → Node
opened handles n = record n { handles = handles }

-- the count ends at the largest number
abbrev pub one_look_up_more : Node → Node
one_look_up_more n = record n { look_ups = min (n.look_ups + 1) 0xFFFF_FFFF_FFFF_FFFF }

-- so many look-ups are forgotten
abbrev pub forgotten : ℕ → Node → Node
forgotten count n = record n { look_ups = n.look_ups - count }

-- the count ends at the largest number
abbrev pub one_handle_more : Node → Node
one_handle_more n = record n { handles = min (n.handles + 1) 0xFFFF_FFFF_FFFF_FFFF }

abbrev pub one_handle_fewer : Node → Node
one_handle_fewer n = record n { handles = n.handles - 1 }
