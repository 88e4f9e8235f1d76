use Rattle.std.proofs.Common.{inr, subst}
use Rattle.lfs_disk_store.specs.Answering.{Syncs}
use Rattle.lfs_disk_store.specs.Keeping.{on_disk}
use Rattle.lfs_disk_store.proofs.DiskLemmas.{ahead, settles_on_disk}
use Rattle.lfs_disk_store.proofs.StateLemmas.{none_of}
use Rattle.lfs_disk_store.proofs.StepLemmas.{settled_step}
use Rattle.lfs_disk_store.proofs.files.DiskStoreFileStore.sync.Goals as goal

pub write_out-requires-clause-ahead : goal.write_out-requires-clause-ahead
write_out-requires-clause-ahead g c =
    let d = g.D.BlockDisk in
    let old = c.self.inside in
    let new = c.sync-synced.new.self in
    ahead d.seen d.may_leave d.has_failed old.store new old.mirror old.fault c.self.invariant c.look.ensures.store
    (settled_step old.store new c.look.ensures.store c.sync-synced.ensures.settles)

pub returns-then-is_some-2-clause-comes : goal.returns-then-is_some-2-clause-comes
returns-then-is_some-2-clause-comes g c =
    let d = g.D.BlockDisk in
    let old = c.self.inside in
    let new = c.sync-synced.new.self in
    let out = c.write_out.ensures in
    subst (λ s. Syncs d.time d.left_since s (on_disk new c.write_out.new.mirror c.write_out.new.fault)) c.self.view_is
    (inr (settles_on_disk d.seen d.may_leave d.has_failed d.time d.left_since old.store new old.mirror old.fault
    c.look.ensures.kept out.kept c.look.ensures.store c.self.invariant c.write_out.new.mirror c.write_out.new.fault
    (none_of old.fault c.is_some.result c.is_some.ensures c.if-is_some.false) out.crash c.sync-synced.ensures.settles))

pub returns-clause-comes : goal.returns-clause-comes
returns-clause-comes g c =
    let d = g.D.BlockDisk in
    let old = c.self.inside in
    let new = c.sync-synced.new.self in
    let out = c.write_out.ensures in
    subst (λ s. Syncs d.time d.left_since s (on_disk new c.write_out.new.mirror c.write_out.new.fault)) c.self.view_is
    (inr (settles_on_disk d.seen d.may_leave d.has_failed d.time d.left_since old.store new old.mirror old.fault
    c.look.ensures.kept out.kept c.look.ensures.store c.self.invariant c.write_out.new.mirror c.write_out.new.fault
    (none_of old.fault c.is_some.result c.is_some.ensures c.if-is_some.false) out.crash c.sync-synced.ensures.settles))
