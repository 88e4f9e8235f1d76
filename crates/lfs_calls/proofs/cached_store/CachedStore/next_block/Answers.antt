use Rattle.std.proofs.Common.{subst}
use Rattle.lfs_known.specs.Spots.{ArePlaced, ArePlacedIn}
use Rattle.lfs_calls.proofs.cached_store.CachedStore.next_block.Goals as goal

pub returns-in-Some-clause-absent : goal.returns-in-Some-clause-absent
returns-in-Some-clause-absent g c k past low =
    let placed = subst (λ x. ArePlaced c.in-Some.table (g.F.FileStore.state x).content) c.self.view_is
    (subst (λ o. ArePlacedIn o (g.F.FileStore.state c.self.inside.store).content) c.in-Some.is
    c.self.invariant.placed) in
    c.next_block.ensures.absent (g.F.FileStore.state c.args.self.now).content placed k past low
