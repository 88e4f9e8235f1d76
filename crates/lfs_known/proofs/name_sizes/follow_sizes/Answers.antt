use Rattle.std.proofs.Common.{sym, subst}
use Rattle.std.proofs.lemmas.List.{take_all}
use Rattle.lfs_types.specs.Changes.{applied}
use Rattle.lfs_known.proofs.FollowLemmas.{applied_next}
use Rattle.lfs_known.specs.Spots.{AreSized}
use Rattle.lfs_known.proofs.name_sizes.follow_sizes.Goals as goal

pub loop-change-init : goal.loop-change-init
loop-change-init c = record { sized = λ t was. was; fewer = λ d some. some }

pub loop-change-preserved : goal.loop-change-preserved
loop-change-preserved c = record {
  sized = λ t was.
      let next = applied_next c.args.changes.now c.loop-change.change-index c.change-item.result t c.loop-change-test.true
      c.change-item.is in
      subst (AreSized c.follow_size.new.whole) (sym next)
      (c.follow_size.ensures.sized _ (c.loop-change.invariant.sized t was));
  fewer = λ d some. c.loop-change.invariant.fewer d (c.follow_size.ensures.fewer d some);
}

pub returns-clause-sized : goal.returns-clause-sized
returns-clause-sized c t was =
    subst (λ xs. AreSized c.loop-change.whole (applied xs t))
    (take_all c.loop-change.change-index c.args.changes.now c.loop-change-test.false)
    (c.loop-change.invariant.sized t was)
