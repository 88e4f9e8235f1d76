use Rattle.std.proofs.Common.{◌≡◌, ◌≢◌, ◌<◌, ◌≤◌, ℕ, Option, None, Some, cond, true, false, refl, sym, ap, ◌∙◌, arith}
use Rattle.std.proofs.lemmas.Bool.{cond-true, cond-false}
use Rattle.std.proofs.lemmas.Grind.{common_steps}
use Rattle.std.specs.HashMap as hash
use Rattle.lfs_nodes.specs.declared.place.Place.{Place}
use Rattle.lfs_nodes.specs.Maps.{same_place, id_at, room_in}
use Rattle.lfs_nodes.proofs.PlaceLemmas.{on_ok, same_place-self, same_place-apart}
use Rattle.lfs_nodes.proofs.index.Index.put.Goals as goal

pub unwrap-requires : goal.unwrap-requires
unfolding room_in
unwrap-requires c = c.insert-put.ensures.succeeds c.requires

pub returns-clause-there : goal.returns-clause-there
unfolding id_at room_in
returns-clause-there c = (on_ok c.insert-put.result
    (c.insert-put.ensures.succeeds c.requires) c.insert-put.ensures.updates).1

pub returns-clause-others : goal.returns-clause-others
unfolding id_at room_in
returns-clause-others c q apart = (on_ok c.insert-put.result
    (c.insert-put.ensures.succeeds c.requires) c.insert-put.ensures.updates).2 q (same_place-apart _ q apart)
