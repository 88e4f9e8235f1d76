-- Nodes behind a name that was removed: `lost_known`.
use Rattle.std.proofs.Common.{◌≡◌, ℕ, Option, None, Some, refl}
use Rattle.lfs_nodes.specs.declared.node.Hang.TheVariants.{Gone}
use Rattle.lfs_nodes.specs.declared.node.Node.{Node}
use Rattle.lfs_nodes.specs.Changes.{hung}
use Rattle.lfs_nodes.specs.Maps.{changed_at}
use Rattle.lfs_nodes.specs.Moves.{gone_at}

pub lost_known : (at : Option ℕ) (nodes after : ℕ → Option Node)
    → ((id : ℕ) → at ≡ Some id → (q : ℕ) → after q ≡ changed_at id (hung Gone) nodes q)
    → (at ≡ None → (q : ℕ) → after q ≡ nodes q) → (q : ℕ) → after q ≡ gone_at at nodes q
lost_known None nodes after gone none q = none refl q
lost_known (Some id) nodes after gone none q = gone id refl q
