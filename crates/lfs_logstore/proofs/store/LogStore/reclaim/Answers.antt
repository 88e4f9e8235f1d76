use Rattle.std.proofs.Common.{sym, subst}
use Rattle.lfs_logstore.specs.Cleaning.{HasLive, IsReclaimed}
use Rattle.lfs_logstore.proofs.ReclaimLemmas.{cleaned}
use Rattle.lfs_segwrite.proofs.RoomLemmas.{with_log}
use Rattle.lfs_logstore.proofs.store.LogStore.reclaim.Goals as goal

pub invariant_of-self : goal.invariant_of-self
invariant_of-self c =
    let has = subst (λ p. HasLive p c.args.segment 0) (sym c.self.view_is) c.requires in
    let e = c.reclaim.ensures in
    let done = cleaned c.self.inside.parts c.reclaim.new.self c.args.segment c.self.invariant.0 c.self.invariant.1 has
    e.tables e.memory e.clean e.step e.kept in
    (done.store, done.room)

pub returns : goal.returns
returns c =
    let has = subst (λ p. HasLive p c.args.segment 0) (sym c.self.view_is) c.requires in
    let e = c.reclaim.ensures in
    let done = cleaned c.self.inside.parts c.reclaim.new.self c.args.segment c.self.invariant.0 c.self.invariant.1 has
    e.tables e.memory e.clean e.step e.kept in
    subst (λ p. IsReclaimed p c.args.segment (with_log c.self.inside.parts c.reclaim.new.self)) c.self.view_is
    done.reclaimed
