use Rattle.std.proofs.Common.{arith}
use Rattle.lfs_volume.proofs.JournalLemmas.{limited_journal}
use Rattle.lfs_volume.proofs.volume.Volume.close_journal.Goals as goal

pub invariant_of-self : goal.invariant_of-self
invariant_of-self g c =
    let v = c.self.inside in
    let state = g.F.FileStore.state in (
      c.self.invariant.0,
      λ from begins. limited_journal from (state v.store) v.level v.journal.items v.limit c.len.result
          (c.self.invariant.1 from begins) (omega (arith, c.len.ensures, v.journal.ok.0)),
      omega (
        arith,
        c.len.ensures,
        v.journal.ok.0,
        c.self.invariant.2,
        (c.self.invariant.1 c.self.invariant.0.0 c.self.invariant.0.1).within,
      ),
      c.self.invariant.3,
    )
