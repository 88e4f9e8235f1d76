use Rattle.std.proofs.Common.{◌≡◌, refl}
use Rattle.std.specs.FinMap as map
use Rattle.lfs_nodes.specs.Nodes.{known}
use Rattle.lfs_nodes.proofs.LawLemmas.{nodes_changed, nodes_grown}
use Rattle.lfs_nodes.proofs.laws.stay_true.Goals as goal

pub returns-clause-changed : goal.returns-clause-changed
returns-clause-changed c w n change are = nodes_changed w n change (known c.args._nodes.now) (map.get w.rows n) refl are

pub returns-clause-grown : goal.returns-clause-grown
returns-clause-grown c w numbers caller path kind mode absent are =
    nodes_grown w.rows _ _ (known c.args._nodes.now) absent are
