-- What the maps of nodes have.
use Rattle.std.specs.Prelude.{ℕ, ◌==◌, ◌&&◌, Bool, Option, bytes_eq, nat_eq, if◌then◌else◌}
use Rattle.std.specs.Option.{option_map}
use Rattle.std.specs.HashMap as hash
use Rattle.lfs_nodes.specs.declared.place.Place.{Place}
use Rattle.lfs_nodes.specs.declared.node.Node.{Node}
use Rattle.lfs_nodes.specs.declared.index.Index.{Index}
use Rattle.lfs_nodes.specs.declared.table.Table.{Table}

-- whether two places are one
abbrev pub same_place : Place → Place → Bool
same_place a b = (a.parent == b.parent) && bytes_eq a.name b.name

-- the id of the node at a place
unfoldable pub id_at : Index → Place → Option ℕ
id_at index place = hash.get same_place index.ids place

-- for how many places more there is room
unfoldable pub room_in : Index → ℕ
room_in index = hash.spare index.ids

-- the node of an id
unfoldable pub node_at : Table → ℕ → Option Node
node_at table id = hash.get nat_eq table.nodes id

-- how many nodes there are
unfoldable pub nodes_in : Table → ℕ
nodes_in table = hash.hash_map_len table.nodes

-- for how many nodes more there is room
unfoldable pub spare_in : Table → ℕ
spare_in table = hash.spare table.nodes

-- the nodes, of which one is changed
abbrev pub changed_at : ℕ → (Node → Node) → (ℕ → Option Node) → ℕ → Option Node
changed_at id change nodes q = if q == id then option_map change (nodes q) else nodes q
