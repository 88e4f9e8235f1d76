use Rattle.std.proofs.Common.{refl}
use Rattle.lfs_tests.proofs.FreshStores.{shows_expected}
use Rattle.lfs_tests.proofs.tests.plain.fresh.Goals as goal

pub new-requires-2 : goal.new-requires-2
new-requires-2 g c = shows_expected _ _ _ _ _ c.expect-files.ensures refl c.new.ensures.opening refl
