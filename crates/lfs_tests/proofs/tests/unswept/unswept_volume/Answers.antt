use Rattle.std.proofs.Common.{refl}
use Rattle.lfs_tests.proofs.FreshStores.{shows_expected}
use Rattle.lfs_tests.proofs.tests.unswept.unswept_volume.Goals as goal

pub new-requires-3 : goal.new-requires-3
new-requires-3 g c = shows_expected _ _ _ _ _ c.expect-files.ensures c.new-2.ensures c.new.ensures.opening refl
