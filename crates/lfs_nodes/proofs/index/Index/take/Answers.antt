use Rattle.std.proofs.Common.{◌≡◌, ◌≢◌, ◌<◌, ◌≤◌, ℕ, Option, None, Some, cond, true, false, refl, sym, ap, ◌∙◌, arith}
use Rattle.std.proofs.lemmas.Bool.{cond-true, cond-false}
use Rattle.std.proofs.lemmas.Grind.{common_steps}
use Rattle.std.specs.HashMap as hash
use Rattle.lfs_nodes.specs.declared.place.Place.{Place}
use Rattle.lfs_nodes.specs.Maps.{same_place, id_at, room_in}
use Rattle.lfs_nodes.proofs.PlaceLemmas.{same_place-self, same_place-apart}
use Rattle.lfs_nodes.proofs.index.Index.take.Goals as goal

pub returns-clause-taken : goal.returns-clause-taken
unfolding id_at
returns-clause-taken c = c.remove.ensures.value

pub returns-clause-gone : goal.returns-clause-gone
unfolding id_at
returns-clause-gone c = c.remove.ensures.updates.1

pub returns-clause-others : goal.returns-clause-others
unfolding id_at
returns-clause-others c q apart = c.remove.ensures.updates.2 q (same_place-apart _ q apart)

pub returns-clause-room : goal.returns-clause-room
unfolding room_in
returns-clause-room c = c.remove.ensures.spare
