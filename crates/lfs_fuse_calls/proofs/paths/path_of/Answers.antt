use Rattle.std.proofs.Common.{ℕ, ◌≡◌, ◌<◌, length, inl, true, false}
use Rattle.std.proofs.Math.Nat.{lt_of_not-le}
use Rattle.lfs_types.specs.Paths.{slashed}
use Rattle.std.specs.Prelude.{option_copied}
use Rattle.lfs_nodes.specs.Maps.{node_at}
use Rattle.lfs_nodes.specs.Reads.{hang_in}
use Rattle.lfs_fuse_calls.proofs.PathLemmas.{over_lacks}
use Rattle.lfs_fuse_calls.proofs.paths.path_of.Goals as goal

pub returns-in-None-clause-lacks : goal.returns-in-None-clause-lacks
returns-in-None-clause-lacks c =
    let names = c.in_ok-names_of.field-0.items in
    let over : 1024 < length (slashed names) =
    lt_of_not-le (λ fits. let wrong : false ≡ true = c.in-None.ensures.fits.1 fits in absurd (cc)) in
    inl (over_lacks (λ (q : ℕ). hang_in (node_at c.args.nodes.now.table q)) c.args.node (option_copied c.args.name) names
    c.in_ok-names_of.ensures.path over)
