use Rattle.std.proofs.Common.{◌≡◌, List, None, ℕ, subst}
use Rattle.lfs_durable.specs.Runs.{IsCounted, ShowsTree}
use Rattle.lfs_disk_store.specs.Finding.{FindsBase}
use Rattle.lfs_disk_store.specs.Keeping.{OnDisk}
use Rattle.lfs_disk_store.proofs.CallLemmas.{mirror_finds}
use Rattle.lfs_disk_store.proofs.store.DiskStore.disk.Goals as goal

pub returns-clause-found : goal.returns-clause-found
returns-clause-found g c =
    let d = g.D.BlockDisk in
    subst (λ (s : OnDisk _). s.fault ≡ None → IsCounted s.store.store → ShowsTree s.store.base → (b : List (List ℕ))
    → d.may_leave s.disk b → FindsBase s.store b)
    c.self.view_is
    (mirror_finds d.seen d.may_leave d.has_failed c.self.inside.store c.self.inside.mirror c.self.inside.fault
    c.self.invariant c.log.ensures.kept)
