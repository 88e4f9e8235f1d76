use Rattle.std.proofs.Common.{subst, ◌≤◌, sym, arith, ℕ}
use Rattle.lfs_ifile.specs.Tables.{row_of}
use Rattle.lfs_view.proofs.SpaceLemmas.{one_few, used_more, used_none}
use Rattle.lfs_view.proofs.space.used.Goals as goal

pub loop-number-init : goal.loop-number-init
loop-number-init c = record { is = used_none c.args.parts.now; few = omega arith }

pub loop-number-preserved : goal.loop-number-preserved
loop-number-preserved c =
    let few = subst (λ (n : ℕ). n ≤ 1) (sym c.one_used-count.ensures)
    (one_few (row_of c.args.parts.now.log.tables c.loop-number.number).used) in
    record {
      is = used_more c.args.parts.now c.loop-number.number c.loop-number.count c.one_used-count.result
          c.loop-number.invariant.is c.one_used-count.ensures;
      few = omega (arith, c.loop-number.invariant.few, few);
    }
