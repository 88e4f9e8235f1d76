use Rattle.std.proofs.Common.{◌≡◌, ℕ, refl}
use Rattle.lfs_nodes.specs.Changes.{opened}
use Rattle.lfs_nodes.specs.Nodes.{known}
use Rattle.lfs_nodes.proofs.ChangeLemmas.{counted_nodes, parents_known}
use Rattle.lfs_nodes.proofs.NodesLemmas.{nodes_fewer}
use Rattle.lfs_nodes.proofs.parts.Parts.close.Goals as goal

pub returns-in-Some-clause-nodes : goal.returns-in-Some-clause-nodes
returns-in-Some-clause-nodes c rows are =
    let K = known c.args.self.now in
    let M = known c.set_handles.new.self in
    let L = known c.release.new.self in
    let mid = counted_nodes K c.args.id (opened c.saturating_sub-handles.result) (λ n. refl)
    (λ n. refl) rows are M c.set_handles.ensures.changed in
    nodes_fewer rows M mid L c.release.ensures.others (parents_known c.release.new.self c.release.ensures.whole)
