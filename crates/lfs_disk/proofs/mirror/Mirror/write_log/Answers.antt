use Rattle.std.proofs.Common.{◌≡◌, ◌≢◌, ◌+◌, ◌*◌, arith}
use Rattle.lfs_segments.specs.Log.{first_of}
use Rattle.lfs_segments.specs.Memory.{next_address}
use Rattle.lfs_disk.specs.Mirroring.{IsOldOrNew}
use Rattle.lfs_disk.specs.Writing.{IsOnTheWay}
use Rattle.lfs_disk.proofs.CrashLemmas.{behind_way, opened_way}
use Rattle.lfs_disk.proofs.MomentLemmas.{widened}
use Rattle.lfs_disk.proofs.mirror.Mirror.write_log.Goals as goal

pub returns-then-active-self-clause-crash : goal.returns-then-active-self-clause-crash
returns-then-active-self-clause-crash g c =
    let d = g.D.BlockDisk in
    let mirror = c.args.self.now in
    let old = mirror.memory.value in
    let new = c.args.memory.now in
    let m = c.requires.mirror in
    let same : new.active ≡ old.active = omega arith in
    widened d.time d.left_since mirror.disk c.write_behind.new.disk (IsOldOrNew old new)
    (IsOnTheWay mirror.next (next_address new) (d.seen mirror.disk) new.blocks) c.write_behind.ensures.crash
    (behind_way old new (d.seen mirror.disk) mirror.next m.blocks m.next m.laid_out c.active.ensures.laid_out
    c.requires.goes_on same)

pub returns-else-active-self-clause-crash : goal.returns-else-active-self-clause-crash
returns-else-active-self-clause-crash g c =
    let d = g.D.BlockDisk in
    let mirror = c.args.self.now in
    let old = mirror.memory.value in
    let new = c.args.memory.now in
    let m = c.requires.mirror in
    let other : new.active ≢ old.active = λ same. c.if-active-self.false (omega arith) in
    widened d.time d.left_since mirror.disk c.write_opened.new.disk (IsOldOrNew old new)
    (IsOnTheWay (first_of new.active) (new.active * 64 + 64) (d.seen mirror.disk) new.blocks)
    c.write_opened.ensures.crash
    (opened_way old new (d.seen mirror.disk) m.blocks c.requires.goes_on other)
