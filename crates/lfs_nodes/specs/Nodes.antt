-- What nodes say of a tree.
use Rattle.std.specs.Prelude.{◌≡◌, ℕ, List, Bool, true, false, Option, None, Some, IsSomeAnd, if◌then◌else◌}
use Rattle.std.specs.Option.{option_map}
use Rattle.lfs_nodes.specs.declared.place.Place.{Place}
use Rattle.lfs_nodes.specs.declared.node.Hang.{Hang}
use Rattle.lfs_nodes.specs.declared.node.Hang.TheVariants.{Root, At, Gone}
use Rattle.lfs_nodes.specs.declared.node.Node.{Node}
use Rattle.lfs_nodes.specs.declared.parts.Parts.{Parts}
use Rattle.lfs_nodes.specs.Maps.{node_at, id_at, same_place}
use Rattle.lfs_nodes.specs.Reads.{hang_in, number_in}
use Rattle.lfs_nodes.specs.Places.{place_of}
use Rattle.lfs_model.specs.World.{Rows, IsChild}

-- the place of a name in a node's directory
abbrev pub place_at : ℕ → List ℕ → Place
place_at parent name = record { parent = parent; name = name }

-- what callers see of a node: all but how many nodes hang beneath it
abbrev pub shown : Node → Node
shown n = record n { children = 0 }

-- the node of an id, as callers see it
abbrev pub known : Parts → ℕ → Option Node
known parts id = option_map shown (node_at parts.table id)

-- whether what hangs so hangs at a place
abbrev pub is_at : Place → Option Hang → Bool
is_at place (Some (At own)) = same_place own place
is_at place hang = false

abbrev pub is_live : Hang → Bool
is_live Root = true
is_live (At place) = true
is_live Gone = false

-- the row of a node that hangs
abbrev pub live_row : Option Node → Option ℕ
live_row None = None
live_row (Some n) = if is_live n.hang then Some n.row else None

-- Nodes are true of rows: each that hangs under a name hangs in a node of a row, in which its own row has that name;
-- and no two that hang are of one row. (That node 1 is the root's and that no two hang at one place holds of all
-- nodes.)
pub record AreNodes (rows : Rows) (nodes : ℕ → Option Node) : Type 0 where
  pub hung : (id : ℕ) (place : Place) (n : ℕ) → place_of (hang_in (nodes id)) ≡ Some place → live_row (nodes id)
      ≡ Some n
      → IsSomeAnd (live_row (nodes place.parent)) (λ p. IsChild rows p place.name n)
  pub apart : (i j n : ℕ) → live_row (nodes i) ≡ Some n → live_row (nodes j) ≡ Some n → i ≡ j

-- an id is that of the node at a place, of a row of this number
abbrev pub IsKnownAs : Parts → Place → ℕ → ℕ → Type 0
IsKnownAs parts place row id = (id_at parts.index place ≡ Some id) × (number_in (node_at parts.table id) ≡ Some row)
