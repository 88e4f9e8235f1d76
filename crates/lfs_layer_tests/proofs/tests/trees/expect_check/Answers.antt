use Rattle.std.proofs.Common.{arith}
use Rattle.lfs_flatfiles.proofs.FlatFilesReach.{content_below}
use Rattle.lfs_layer_tests.proofs.tests.trees.expect_check.Goals as goal

pub check_tree-requires : goal.check_tree-requires
check_tree-requires g c = λ n used.
    let places = c.args.store.now.places in
    let low = content_below places.items n used in
    let size = places.ok.0 in
    omega (arith, c.requires)
