use Rattle.std.proofs.Common.{◌≡◌, ℕ, refl}
use Rattle.lfs_nodes.specs.Changes.{opened}
use Rattle.lfs_nodes.specs.Nodes.{known}
use Rattle.lfs_nodes.proofs.ChangeLemmas.{counted_nodes}
use Rattle.lfs_nodes.proofs.parts.Parts.open.Goals as goal

pub returns-in-Some-clause-nodes : goal.returns-in-Some-clause-nodes
returns-in-Some-clause-nodes c rows are =
    counted_nodes (known c.args.self.now) c.args.id (opened c.saturating_add-handles.result) (λ n. refl)
    (λ n. refl) rows are (known c.set_handles.new.self) c.set_handles.ensures.changed
