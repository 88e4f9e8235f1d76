use Rattle.std.proofs.Common.{IfOk, ℕ, List, Some, sym, subst}
use Rattle.std.specs.Prelude.{IsSome}
use Rattle.lfs_nodes.specs.Maps.{node_at}
use Rattle.lfs_nodes.specs.Nodes.{place_at}
use Rattle.lfs_fuse_calls.specs.Paths.{IsPathOf}
use Rattle.lfs_mount.specs.Handled.{hangs_in}
use Rattle.lfs_mount.specs.Moving.{MovesIfDone}
use Rattle.lfs_mount.proofs.MovingLemmas.{path_known}
use Rattle.lfs_mount.proofs.node_tree.NodeTree.renamed.Goals as goal

pub returns-clause-moves : goal.returns-clause-moves
returns-clause-moves g c =
    let before = c.args.self.now.nodes in
    let after = c.rename_paths.new.self.nodes in
    let reply = c.rename_paths.result in
    let from = c.args.spots.now.from in
    let to = c.args.spots.now.to in
    let it = c.in-Ok.renaming in
    let is = c.in-Ok.ensures in
    let path = c.in-Ok-path_of-2.path in
    let leads : IsPathOf (hangs_in before) to.node (Some to.name.now) path =
    subst (λ r. IfOk r (λ (p : List (List ℕ)). IsPathOf (hangs_in before) to.node (Some to.name.now) p))
    c.in-Ok-path_of-2.is c.path_of-2.ensures.path in
    let there = path_known before to.node (Some to.name.now) path leads in
    subst (λ (n : ℕ). MovesIfDone reply (place_at n from.name.now) (place_at to.node to.name.now) before after) is.from
    (subst (λ (n : List ℕ). MovesIfDone reply (place_at it.from.0 n) (place_at to.node to.name.now) before after) is.name
    (subst (λ (n : ℕ). MovesIfDone reply (place_at it.from.0 it.name) (place_at n to.name.now) before after) is.to
    (subst (λ (n : List ℕ). MovesIfDone reply (place_at it.from.0 it.name) (place_at it.to.0 n) before after) is.new_name
    (c.rename_paths.ensures.moves (subst (λ (n : ℕ). IsSome (node_at before.table n)) (sym is.to) there)))))
