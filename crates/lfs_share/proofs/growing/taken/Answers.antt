use Rattle.std.proofs.Common.{ℕ, ◌+◌, refl, ◌∙◌, ap, sym, ◌≡◌, arith}
use Rattle.std.specs.FinMap as map
use Rattle.lfs_bmap.specs.Counting.{total}
use Rattle.lfs_logstore.specs.States.{state_of}
use Rattle.lfs_segwrite.proofs.GainLemmas.{total_more}
use Rattle.lfs_share.specs.Share.{units_of_file}
use Rattle.lfs_share.proofs.GrowthLemmas.{each_few}
use Rattle.lfs_share.proofs.growing.taken.Goals as goal

pub loop-ino-init : goal.loop-ino-init
unfolding total
loop-ino-init c = record { counted = refl; few = omega arith }

pub overflow_add-units : goal.overflow_add-units
overflow_add-units c =
    let one = each_few c.args.store.now c.parts.ensures.store c.loop-ino.ino in
    omega (
      arith,
      one,
      c.loop-ino.invariant.few,
      c.units_of-units.ensures,
      c.loop-ino-test.true,
      c.inodes-numbers.type_inv,
    )

pub loop-ino-preserved : goal.loop-ino-preserved
loop-ino-preserved c =
    let units : ℕ → ℕ = λ n. units_of_file (map.get (state_of c.args.store.now).content n) in
    let k = c.loop-ino.ino in
    let one = each_few c.args.store.now c.parts.ensures.store k in
    record {
      counted =
          ap (λ n. c.loop-ino.units + n) c.units_of-units.ensures
          ∙ ap (λ n. n + units k) c.loop-ino.invariant.counted
          ∙ (let swap : total units k + units k ≡ units k + total units k = omega arith in swap)
          ∙ sym (total_more units k);
      few = omega (arith, one, c.loop-ino.invariant.few, c.units_of-units.ensures);
    }
