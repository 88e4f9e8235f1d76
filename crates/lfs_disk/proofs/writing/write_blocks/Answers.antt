use Rattle.std.proofs.Common.{◌≡◌, ◌+◌, ◌<◌, ◌≤◌, List, ℕ, subst, sym, set, arith, length}
use Rattle.lfs_disk.specs.Writing.{IsLeftBut, HasOthers}
use Rattle.lfs_disk.proofs.BlockLemmas.{lands_in, same-refl, others-none, others-set}
use Rattle.lfs_disk.proofs.MomentLemmas.{goes_on, started}
use Rattle.lfs_disk.proofs.writing.write_blocks.Goals as goal

pub loop-address-init : goal.loop-address-init
loop-address-init g c =
    let disk = c.args.disk.now in
    record {
      written = others-none c.args.memory.now.blocks c.args.start (g.D.BlockDisk.seen disk);
      crash = started g.D.BlockDisk.time g.D.BlockDisk.left_since disk
          (IsLeftBut c.args.start c.args.end (g.D.BlockDisk.may_leave disk))
          (λ l left. (l, g.met.D.BlockDisk.only_now disk l left, same-refl c.args.start c.args.end l));
      failed = λ was. was;
    }

pub returns-in_err-write-clause-crash : goal.returns-in_err-write-clause-crash
returns-in_err-write-clause-crash g c =
    let d = g.D.BlockDisk in
    let disk = c.args.disk.now in
    let i = c.loop-address.invariant in
    let from : c.args.start ≤ c.loop-address.address = omega arith in
    let to : c.loop-address.address < c.args.end = omega arith in
    goes_on d.time d.left_since disk c.loop-address.disk c.write.new.self
    (IsLeftBut c.args.start c.args.end (d.may_leave disk))
    (d.may_leave c.write.new.self) i.crash c.write.ensures.elapses
    (lands_in c.args.start c.args.end c.loop-address.address c.block.result.now (d.may_leave disk)
    (d.may_leave c.loop-address.disk) (d.may_leave c.write.new.self) from to
    (λ l left. i.crash.each l (g.met.D.BlockDisk.counts_now c.loop-address.disk (d.time disk) l i.crash.later left))
    c.write.ensures.crash)

pub loop-address-preserved : goal.loop-address-preserved
loop-address-preserved g c =
    let d = g.D.BlockDisk in
    let disk = c.args.disk.now in
    let i = c.loop-address.invariant in
    let from : c.args.start ≤ c.loop-address.address = omega arith in
    let to : c.loop-address.address < c.args.end = omega arith in
    let inside : c.loop-address.address < length (d.seen disk) = omega (arith, c.requires.inside, c.requires.long) in
    record {
      written = subst
          (λ (l : List (List ℕ)). HasOthers c.args.memory.now.blocks c.args.start (c.loop-address.address + 1)
          (d.seen disk) l)
          {x = set (d.seen c.loop-address.disk) c.loop-address.address c.block.result.now}
          (sym {b = set (d.seen c.loop-address.disk) c.loop-address.address c.block.result.now}
          c.in_ok-write.ensures.written)
          (others-set c.args.memory.now.blocks c.args.start c.loop-address.address c.block.result.now (d.seen disk)
          (d.seen c.loop-address.disk) from inside c.block.ensures.block i.written);
      crash = goes_on d.time d.left_since disk c.loop-address.disk c.write.new.self
          (IsLeftBut c.args.start c.args.end (d.may_leave disk)) (d.may_leave c.write.new.self) i.crash
          c.write.ensures.elapses
          (lands_in c.args.start c.args.end c.loop-address.address c.block.result.now (d.may_leave disk)
          (d.may_leave c.loop-address.disk) (d.may_leave c.write.new.self) from to
          (λ l left.
          i.crash.each l (g.met.D.BlockDisk.counts_now c.loop-address.disk (d.time disk) l i.crash.later left))
          c.write.ensures.crash);
      failed = λ was. c.write.ensures.failed (i.failed was);
    }

pub returns-clause-written : goal.returns-clause-written
returns-clause-written g c =
    let d = g.D.BlockDisk in
    let at : c.loop-address.address ≡ c.args.end = omega arith in
    subst
    (λ (k : ℕ). HasOthers c.args.memory.now.blocks c.args.start k (d.seen c.args.disk.now) (d.seen c.loop-address.disk))
    at
    c.loop-address.invariant.written
