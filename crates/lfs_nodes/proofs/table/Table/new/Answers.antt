use Rattle.std.proofs.Common.{◌≡◌, ◌≢◌, ◌<◌, ◌≤◌, ℕ, Option, None, Some, cond, true, false, refl, sym, ap, ◌∙◌, arith}
use Rattle.std.proofs.lemmas.Bool.{cond-true, cond-false, ne_eqb}
use Rattle.std.proofs.lemmas.Grind.{common_steps}
use Rattle.std.specs.HashMap as hash
use Rattle.lfs_nodes.specs.Maps.{node_at, nodes_in, spare_in}
use Rattle.lfs_nodes.proofs.PlaceLemmas.{on_ok}
use Rattle.lfs_nodes.proofs.table.Table.new.Goals as goal

pub returns : goal.returns
unfolding node_at
returns c = grind (arith, common_steps, c.new.ensures.empty)
