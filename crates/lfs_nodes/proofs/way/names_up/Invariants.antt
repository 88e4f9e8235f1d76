use Rattle.std.proofs.Common.{◌≡◌, ℕ, ◌+◌, length}
use Rattle.lfs_types.specs.Paths.{slashed}
use Rattle.lfs_nodes.specs.Maps.{node_at}
use Rattle.lfs_nodes.specs.Reads.{hang_in}
use Rattle.lfs_nodes.specs.Ways.{LeadsUp}
use Rattle.lfs_nodes.proofs.way.names_up.Given as goal

abbrev pub invariant-loop-names : goal.invariant-loop-names
invariant-loop-names l = record {
  up : LeadsUp (λ q. hang_in (node_at l.table q)) l.id l.names.items l.at;
  taken : length (slashed l.names.items) + l.room ≡ 1024;
}

abbrev pub decreases-loop-names : goal.decreases-loop-names
decreases-loop-names l = l.room
