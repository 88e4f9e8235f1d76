use Rattle.std.proofs.Common.{refl}
use Rattle.lfs_volume.proofs.OpeningLemmas.{shows_opening_state}
use Rattle.lfs_bench.proofs.store.plain_volume.Goals as goal

pub new-requires-2 : goal.new-requires-2
new-requires-2 c = shows_opening_state _ _ c.in_ok-files.ensures.opening refl
