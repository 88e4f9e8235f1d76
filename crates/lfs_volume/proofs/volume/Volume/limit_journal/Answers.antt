use Rattle.std.proofs.Common.{◌≤◌, arith, length, subst, sym}
use Rattle.lfs_volume.proofs.JournalLemmas.{limited_journal}
use Rattle.lfs_volume.proofs.volume.Volume.limit_journal.Goals as goal

pub invariant_of-self : goal.invariant_of-self
invariant_of-self g c =
    let v = c.self.inside in
    let state = g.F.FileStore.state in
    let limit = c.args.limit in (
      c.self.invariant.0,
      λ from begins. limited_journal from (state v.store) v.level v.journal.items v.limit limit
          (c.self.invariant.1 from begins)
          (subst (λ h. length h.journal ≤ limit) (sym c.self.view_is) c.requires.within),
      omega (arith, subst (λ h. limit ≤ h.limit) (sym c.self.view_is) c.requires.lower, c.self.invariant.2),
      c.self.invariant.3,
    )
