use Rattle.std.proofs.Common.{◌≡◌, ◌≢◌, ◌<◌, ◌≤◌, ℕ, Option, None, Some, cond, true, false, refl, sym, ap, ◌∙◌, arith}
use Rattle.std.proofs.lemmas.Bool.{cond-true, cond-false, ne_eqb}
use Rattle.std.proofs.lemmas.Grind.{common_steps}
use Rattle.std.specs.HashMap as hash
use Rattle.lfs_nodes.specs.Maps.{node_at, nodes_in, spare_in}
use Rattle.lfs_nodes.proofs.PlaceLemmas.{on_ok}
use Rattle.lfs_nodes.proofs.table.Table.reserve.Goals as goal

pub returns-clause-same : goal.returns-clause-same
unfolding node_at
returns-clause-same c q = c.reserve.ensures.entries.2 q

pub returns-clause-room : goal.returns-clause-room
unfolding spare_in
returns-clause-room c = c.reserve.ensures.ok
