use Rattle.std.proofs.Common.{◌≡◌, ◌+◌, ◌<◌, inr, List, ℕ, subst, sym, ap, ◌∙◌, set, arith, length, [], slice_index_or}
use Rattle.lfs_disk.specs.Writing.{HasOthers}
use Rattle.lfs_disk.proofs.BlockLemmas.{all_others, others-none, others-set}
use Rattle.lfs_disk.proofs.MomentLemmas.{followed, started}
use Rattle.lfs_disk_start.specs.Mixing.{IsMixtureOf, IsWithOrWithout}
use Rattle.lfs_disk_start.proofs.MixLemmas.{mix-lands, mix-none}
use Rattle.lfs_disk_start.proofs.writing.put_others.Goals as goal

pub loop-address-init : goal.loop-address-init
loop-address-init g c =
    let d = g.D.BlockDisk in
    let disk = c.args.disk.now in
    let old = c.args.old.now.blocks in
    let new = c.args.new.now.blocks in
    record {
      written = others-none new 0 (d.seen disk);
      crash = started d.time d.left_since disk (IsMixtureOf old new)
          (λ l left. mix-none old new l (c.requires.synced l (g.met.D.BlockDisk.only_now disk l left) ∙ c.requires.blocks));
      failed = λ was. was;
      long = λ some. absurd (omega arith);
    }

pub put_other-requires-clause-inside : goal.put_other-requires-clause-inside
put_other-requires-clause-inside g c =
    let long = c.loop-address.invariant.written.same.long in
    let count = ap (λ (b : List (List ℕ)). length b) c.requires.blocks in
    let whole = c.block.ensures.laid_out.whole in
    omega (arith, long, count, whole, c.segments-address-end.ensures.segments)

pub put_other-requires-clause-there : goal.put_other-requires-clause-there
put_other-requires-clause-there g c =
    let at = c.loop-address.address in
    c.loop-address.invariant.written.same.outside at (inr (omega arith))
    ∙ ap (λ (b : List (List ℕ)). slice_index_or b at []) c.requires.blocks ∙ sym c.block.ensures.block

pub returns-in_err-put_other-clause-crash : goal.returns-in_err-put_other-clause-crash
returns-in_err-put_other-clause-crash g c =
    let d = g.D.BlockDisk in
    let disk = c.args.disk.now in
    let old = c.args.old.now.blocks in
    let new = c.args.new.now.blocks in
    let at = c.loop-address.address in
    let mid = c.loop-address.disk in
    let i = c.loop-address.invariant in
    let whole = c.block.ensures.laid_out.whole in
    let inside : at < length old = omega (arith, whole, c.segments-address-end.ensures.segments) in
    followed d.time d.left_since disk mid c.put_other.new.disk (IsMixtureOf old new)
    (IsWithOrWithout at c.block-in-loop-address.result.now (d.may_leave mid)) i.crash c.put_other.ensures.crash
    (mix-lands old new at c.block-in-loop-address.result.now (d.may_leave mid) inside c.block-in-loop-address.ensures.block
    (λ l left. i.crash.each l (g.met.D.BlockDisk.counts_now mid (d.time disk) l i.crash.later left)))

pub loop-address-preserved : goal.loop-address-preserved
loop-address-preserved g c =
    let d = g.D.BlockDisk in
    let disk = c.args.disk.now in
    let old = c.args.old.now.blocks in
    let new = c.args.new.now.blocks in
    let at = c.loop-address.address in
    let mid = c.loop-address.disk in
    let block = c.block-in-loop-address.result.now in
    let i = c.loop-address.invariant in
    let whole = c.block.ensures.laid_out.whole in
    let inside : at < length old = omega (arith, whole, c.segments-address-end.ensures.segments) in
    let count : length (d.seen disk) ≡ length old = ap (λ (b : List (List ℕ)). length b) c.requires.blocks in
    let low : at < length (d.seen disk) = omega arith in
    record {
      written = subst (λ (l : List (List ℕ)). HasOthers new 0 (at + 1) (d.seen disk) l)
          {x = set (d.seen mid) at block}
          (sym {b = set (d.seen mid) at block} c.in_ok-put_other.ensures.written)
          (others-set new 0 at block (d.seen disk) (d.seen mid) (omega arith) low c.block-in-loop-address.ensures.block i.written);
      crash = followed d.time d.left_since disk mid c.put_other.new.disk (IsMixtureOf old new)
          (IsWithOrWithout at block (d.may_leave mid)) i.crash c.put_other.ensures.crash
          (mix-lands old new at block (d.may_leave mid) inside c.block-in-loop-address.ensures.block
          (λ l left. i.crash.each l (g.met.D.BlockDisk.counts_now mid (d.time disk) l i.crash.later left)));
      failed = λ was. c.put_other.ensures.failed (i.failed was);
      long = λ some. omega (arith, whole, c.block-in-loop-address.ensures.laid_out.whole, c.requires.segments);
    }

pub returns-clause-written : goal.returns-clause-written
returns-clause-written g c =
    let d = g.D.BlockDisk in
    let old = c.args.old.now.blocks in
    let new = c.args.new.now.blocks in
    let at = c.loop-address.address in
    let i = c.loop-address.invariant in
    let laid = c.segments-address-end.ensures.laid_out in
    let long = i.long (omega (arith, laid.at_least, c.segments-address-end.ensures.segments)) in
    let size : length old ≡ at = omega (arith, laid.whole, c.segments-address-end.ensures.segments) in
    let first : length (d.seen c.args.disk.now) ≡ length old = ap (λ (b : List (List ℕ)). length b) c.requires.blocks in
    all_others new at (d.seen c.args.disk.now) (d.seen c.loop-address.disk) (long ∙ size) (first ∙ size) i.written
