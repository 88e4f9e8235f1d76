use Rattle.std.proofs.Common.{refl}
use Rattle.lfs_tests.proofs.FreshStores.{shows_expected}
use Rattle.lfs_tests.proofs.tests.fresh.Goals as goal

pub new-requires : goal.new-requires
new-requires g c = shows_expected _ _ _ _ _ c.expect-store.ensures refl c.format.ensures.opening refl
