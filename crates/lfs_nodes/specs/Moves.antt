-- What a rename makes of nodes.
use Rattle.std.specs.Prelude.{ℕ, Option, None, Some}
use Rattle.lfs_nodes.specs.declared.place.Place.{Place}
use Rattle.lfs_nodes.specs.declared.node.Hang.TheVariants.{At, Gone}
use Rattle.lfs_nodes.specs.declared.node.Node.{Node}
use Rattle.lfs_nodes.specs.Changes.{hung}
use Rattle.lfs_nodes.specs.Maps.{changed_at}

-- a node, if there is one, is gone
abbrev pub gone_at : Option ℕ → (ℕ → Option Node) → ℕ → Option Node
gone_at None nodes q = nodes q
gone_at (Some id) nodes q = changed_at id (hung Gone) nodes q

-- a node, if there is one, hangs at a place
abbrev pub hung_at : Option ℕ → Place → (ℕ → Option Node) → ℕ → Option Node
hung_at None place nodes q = nodes q
hung_at (Some id) place nodes q = changed_at id (hung (At place)) nodes q

-- the node at the old place hangs at the new one, and the node that hung there is gone
abbrev pub moved_at : Option ℕ → Option ℕ → Place → (ℕ → Option Node) → ℕ → Option Node
moved_at from to place nodes q = hung_at from place (gone_at to (gone_at from nodes)) q
