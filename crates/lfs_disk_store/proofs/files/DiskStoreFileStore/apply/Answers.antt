use Rattle.std.proofs.Common.{inr, subst}
use Rattle.lfs_types.specs.StoreStates.{Applies}
use Rattle.lfs_durable_store.specs.Keeping.{Durably}
use Rattle.lfs_disk_store.specs.Answering.{ComesTo}
use Rattle.lfs_disk_store.specs.Keeping.{OnDisk, disk_state, on_disk}
use Rattle.lfs_disk_store.proofs.DiskLemmas.{ahead, comes_on_disk}
use Rattle.lfs_disk_store.proofs.StateLemmas.{none_of, shared_applies}
use Rattle.lfs_disk_store.proofs.StepLemmas.{IsStep, behind_step, way_step}
use Rattle.lfs_disk_store.proofs.files.DiskStoreFileStore.apply.Goals as goal

pub write_out-requires-clause-ahead : goal.write_out-requires-clause-ahead
write_out-requires-clause-ahead g c =
    let d = g.D.BlockDisk in
    let old = c.self.inside in
    let mid = c.make_way.new.self in
    ahead d.seen d.may_leave d.has_failed old.store mid old.mirror old.fault c.self.invariant c.look.ensures.store
    (way_step c.args.changes.now old.store mid c.look.ensures.store c.make_way.ensures)

pub write_out-requires-2-clause-ahead : goal.write_out-requires-2-clause-ahead
write_out-requires-2-clause-ahead g c =
    let d = g.D.BlockDisk in
    let old = c.self.inside in
    let mid = c.make_way.new.self in
    let new = c.make_changes-made.new.self in
    let made = c.make_changes-made.ensures.made old.store c.make_way.ensures in
    ahead d.seen d.may_leave d.has_failed mid new c.write_out.new.mirror c.write_out.new.fault
    c.write_out.ensures.followed c.write_out.ensures.store
    (subst (λ (s : Durably). IsStep s new) made.1
    (behind_step old.store new c.args.changes.now c.args.by c.make_changes-made.result made.0))

pub returns-clause-applies : goal.returns-clause-applies
returns-clause-applies g c =
    let old = c.self.inside in
    let new = c.make_changes-made.new.self in
    subst (λ (s : OnDisk _). Applies (disk_state s) c.args.changes.now c.make_changes-made.result
    (disk_state (on_disk new c.write_out-2.new.mirror c.write_out-2.new.fault))) c.self.view_is
    (shared_applies (on_disk old.store old.mirror old.fault) (on_disk new c.write_out-2.new.mirror c.write_out-2.new.fault)
    c.args.changes.now c.make_changes-made.result
    (c.make_changes-made.ensures.applies old.store c.make_way.ensures))

pub returns-clause-made : goal.returns-clause-made
returns-clause-made g c =
    let d = g.D.BlockDisk in
    let old = c.self.inside in
    let mid = c.make_way.new.self in
    let new = c.make_changes-made.new.self in
    let result = c.make_changes-made.result in
    let out = c.write_out.ensures in
    let then = c.write_out-2.ensures in
    let m = c.write_out.new.mirror in
    let n = c.write_out-2.new.mirror in
    let made = c.make_changes-made.ensures.made old.store c.make_way.ensures in
    subst (λ s. ComesTo d.time d.left_since s c.args.changes.now c.args.by result (on_disk new n c.write_out-2.new.fault))
    c.self.view_is
    (inr (comes_on_disk d.seen d.may_leave d.has_failed d.time d.left_since old.store new old.mirror old.fault
    c.look.ensures.kept then.kept c.look.ensures.store c.self.invariant mid m n c.write_out.new.fault
    c.write_out-2.new.fault out.kept out.followed
    (none_of old.fault c.is_some.result c.is_some.ensures c.if-is_some.false) out.crash then.crash then.stays
    c.args.changes.now c.args.by result c.make_way.ensures made.0 made.1))
