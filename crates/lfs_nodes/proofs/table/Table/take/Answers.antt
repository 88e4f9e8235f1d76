use Rattle.std.proofs.Common.{◌≡◌, ◌≢◌, ◌<◌, ◌≤◌, ℕ, Option, None, Some, cond, true, false, refl, sym, ap, ◌∙◌, arith}
use Rattle.std.proofs.lemmas.Bool.{cond-true, cond-false, ne_eqb}
use Rattle.std.proofs.lemmas.Grind.{common_steps}
use Rattle.std.specs.HashMap as hash
use Rattle.lfs_nodes.specs.Maps.{node_at, nodes_in, spare_in}
use Rattle.lfs_nodes.proofs.PlaceLemmas.{on_ok}
use Rattle.lfs_nodes.proofs.table.Table.take.Goals as goal

pub returns-clause-taken : goal.returns-clause-taken
unfolding node_at
returns-clause-taken c = c.remove.ensures.value

pub returns-clause-gone : goal.returns-clause-gone
unfolding node_at
returns-clause-gone c = c.remove.ensures.updates.1

pub returns-clause-others : goal.returns-clause-others
unfolding node_at
returns-clause-others c q apart = c.remove.ensures.updates.2 q (ne_eqb c.args.id q (λ e. apart (sym e)))

pub returns-clause-fewer : goal.returns-clause-fewer
unfolding nodes_in
returns-clause-fewer c = grind (arith, common_steps, c.remove.ensures.len)

pub returns-clause-no_more : goal.returns-clause-no_more
unfolding nodes_in
returns-clause-no_more c = let len = c.remove.ensures.len in omega arith
