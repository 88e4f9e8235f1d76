use Rattle.std.proofs.Common.{refl}
use Rattle.lfs_volume.proofs.OpeningLemmas.{shows_opening_state}
use Rattle.lfs_scarcity.proofs.volumes.new_plain.Goals as goal

pub new-requires-2 : goal.new-requires-2
new-requires-2 c = shows_opening_state _ _ c.in-Ok.ensures.opening refl
