use Rattle.std.proofs.Common.{◌≡◌}
use Rattle.lfs_types.specs.Tree.{World}
use Rattle.lfs_auditing.specs.Audits.{HasReadNone, IsOfSame}
use Rattle.lfs_auditing.proofs.PlaceLemmas.{Found}
use Rattle.lfs_auditing.proofs.audit.Audit.find_place.Given as goal

abbrev pub invariant-loop : goal.invariant-loop
invariant-loop g l = record {
  found : (from : World) → HasReadNone from l.fn.self
      → Found (g.R.Read.remaining l.fn.reader) (g.R.Read.remaining l.reader) from (g.F.FileStore.state l.fn.store)
      l.self l.search.behind;
  same : IsOfSame l.fn.self l.self;
  state : g.F.FileStore.state l.store ≡ g.F.FileStore.state l.fn.store;
}
