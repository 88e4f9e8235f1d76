use Rattle.std.proofs.Common.{◌≡◌, ◌≢◌, ◌<◌, ◌≤◌, ℕ, Option, None, Some, cond, true, false, refl, sym, ap, ◌∙◌, arith}
use Rattle.std.proofs.lemmas.Bool.{cond-true, cond-false, ne_eqb}
use Rattle.std.proofs.lemmas.Grind.{common_steps}
use Rattle.std.specs.HashMap as hash
use Rattle.lfs_nodes.specs.Maps.{node_at, nodes_in, spare_in}
use Rattle.lfs_nodes.proofs.PlaceLemmas.{on_ok}
use Rattle.lfs_nodes.proofs.table.Table.put.Goals as goal

pub unwrap-requires : goal.unwrap-requires
unfolding spare_in
unwrap-requires c = c.insert-put.ensures.succeeds c.requires

pub returns-clause-there : goal.returns-clause-there
unfolding node_at spare_in
returns-clause-there c = (on_ok c.insert-put.result
    (c.insert-put.ensures.succeeds c.requires) c.insert-put.ensures.updates).1

pub returns-clause-others : goal.returns-clause-others
unfolding node_at spare_in
returns-clause-others c q apart = (on_ok c.insert-put.result
    (c.insert-put.ensures.succeeds c.requires) c.insert-put.ensures.updates).2 q
    (ne_eqb c.args.id q (λ e. apart (sym e)))
