use Rattle.std.proofs.Common.{sym, subst}
use Rattle.std.proofs.lemmas.List.{take_all}
use Rattle.lfs_types.specs.Changes.{applied}
use Rattle.lfs_known.proofs.FollowLemmas.{applied_next}
use Rattle.lfs_known.specs.Spots.{ArePlaced}
use Rattle.lfs_known.proofs.name_changes.follow_all.Goals as goal

pub loop-change-preserved : goal.loop-change-preserved
loop-change-preserved c t was =
    let next = applied_next c.args.changes.now c.loop-change.change-index c.change-item.result t c.loop-change-test.true
    c.change-item.is in
    subst (ArePlaced c.follow_one.new.table) (sym next) (c.follow_one.ensures _ (c.loop-change.invariant t was))

pub returns : goal.returns
returns c t was =
    subst (λ xs. ArePlaced c.loop-change.table (applied xs t))
    (take_all c.loop-change.change-index c.args.changes.now c.loop-change-test.false)
    (c.loop-change.invariant t was)
