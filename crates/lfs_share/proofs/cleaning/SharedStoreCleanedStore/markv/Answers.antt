use Rattle.std.proofs.Common.{◌∙◌}
use Rattle.lfs_share.proofs.GrowthLemmas.{same_share}
use Rattle.lfs_share.proofs.MarkLemmas.{kept_marked}
use Rattle.lfs_share.proofs.ShareLemmas.{kept_flushed}
use Rattle.lfs_share.proofs.cleaning.SharedStoreCleanedStore.markv.Goals as goal

pub invariant_of-self : goal.invariant_of-self
invariant_of-self c =
    let old = c.self.inside.store in
    let mid = c.make_way.new.store in
    let new = c.markv.new.self in
    let room = c.make_way.ensures in
    let given = c.markv.ensures.given in
    let held = same_share old new c.self.inside.most (c.markv.ensures.content ∙ room.content)
    (c.markv.ensures.follows.shape ∙ room.shape) c.self.invariant.1 c.self.invariant.2 in (
      kept_flushed new given.flushed (kept_marked mid new _ c.markv.result given room.clean),
      held.0,
      held.1,
    )
