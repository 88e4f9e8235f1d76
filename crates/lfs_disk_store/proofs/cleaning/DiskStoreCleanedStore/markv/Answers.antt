use Rattle.std.proofs.Common.{inr, subst}
use Rattle.lfs_disk_store.specs.CleanerCalls.{WritesAgain}
use Rattle.lfs_disk_store.specs.Keeping.{on_disk}
use Rattle.lfs_disk_store.proofs.DiskLemmas.{ahead, marks_on_disk}
use Rattle.lfs_disk_store.proofs.StateLemmas.{none_of}
use Rattle.lfs_disk_store.proofs.StepLemmas.{again_step, settled_step}
use Rattle.lfs_disk_store.proofs.cleaning.DiskStoreCleanedStore.markv.Goals as goal

pub write_out-requires-clause-ahead : goal.write_out-requires-clause-ahead
write_out-requires-clause-ahead g c =
    let d = g.D.BlockDisk in
    let old = c.self.inside in
    let mid = c.sync-synced.new.self in
    ahead d.seen d.may_leave d.has_failed old.store mid old.mirror old.fault c.self.invariant c.look.ensures.store
    (settled_step old.store mid c.look.ensures.store c.sync-synced.ensures.settles)

pub write_out-requires-2-clause-ahead : goal.write_out-requires-2-clause-ahead
write_out-requires-2-clause-ahead g c =
    let d = g.D.BlockDisk in
    let mid = c.sync-synced.new.self in
    let new = c.markv-marked.new.self in
    let settles = c.sync-synced.ensures.settles.settles in
    ahead d.seen d.may_leave d.has_failed mid new c.write_out.new.mirror c.write_out.new.fault
    c.write_out.ensures.followed c.write_out.ensures.store
    (again_step mid c.args.marks.now settles.base c.write_out.ensures.store settles.written.flushed c.markv-marked.result
    new c.markv-marked.ensures.given)

pub returns-clause-given : goal.returns-clause-given
returns-clause-given g c =
    let d = g.D.BlockDisk in
    let old = c.self.inside in
    let mid = c.sync-synced.new.self in
    let new = c.markv-marked.new.self in
    let result = c.markv-marked.result in
    let out = c.write_out.ensures in
    let then = c.write_out-2.ensures in
    let m = c.write_out.new.mirror in
    let n = c.write_out-2.new.mirror in
    subst (λ s. WritesAgain d.time d.left_since s c.args.marks.now result (on_disk new n c.write_out-2.new.fault))
    c.self.view_is
    (inr (marks_on_disk d.seen d.may_leave d.has_failed d.time d.left_since old.store new old.mirror old.fault
    c.look.ensures.kept then.kept c.look.ensures.store c.self.invariant mid m n c.write_out.new.fault
    c.write_out-2.new.fault out.kept out.followed
    (none_of old.fault c.is_some.result c.is_some.ensures c.if-is_some.false) out.crash then.crash then.stays
    c.args.marks.now result out.store c.sync-synced.ensures.settles c.markv-marked.ensures.given
    c.markv-marked.ensures.content))
