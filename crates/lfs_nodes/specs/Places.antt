-- Where nodes hang.
use Rattle.std.specs.Prelude.{Option, None, Some}
use Rattle.lfs_nodes.specs.declared.place.Place.{Place}
use Rattle.lfs_nodes.specs.declared.node.Hang.{Hang}
use Rattle.lfs_nodes.specs.declared.node.Hang.TheVariants.{Root, At, Gone}

-- the place at which a node hangs, if it does
abbrev pub place_of : Option Hang → Option Place
place_of None = None
place_of (Some Root) = None
place_of (Some (At place)) = Some place
place_of (Some Gone) = None
