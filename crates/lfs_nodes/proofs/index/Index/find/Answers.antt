use Rattle.std.proofs.Common.{◌≡◌, ◌≢◌, ◌<◌, ◌≤◌, ℕ, Option, None, Some, cond, true, false, refl, sym, ap, ◌∙◌, arith}
use Rattle.std.proofs.lemmas.Bool.{cond-true, cond-false}
use Rattle.std.proofs.lemmas.Grind.{common_steps}
use Rattle.std.specs.HashMap as hash
use Rattle.lfs_nodes.specs.declared.place.Place.{Place}
use Rattle.lfs_nodes.specs.Maps.{same_place, id_at, room_in}
use Rattle.lfs_nodes.proofs.PlaceLemmas.{same_place-self, same_place-apart}
use Rattle.lfs_nodes.proofs.index.Index.find.Goals as goal

pub returns : goal.returns
unfolding id_at
returns c = grind (arith, common_steps, c.copied.ensures, c.get.ensures.value)
