use Rattle.std.proofs.Common.{ap}
use Rattle.lfs_types.specs.StoreStates.{StoreState}
use Rattle.lfs_logstore.proofs.RoomLemmas.{same_state}
use Rattle.lfs_share.proofs.GrowthLemmas.{same_share}
use Rattle.lfs_share.proofs.ShareLemmas.{kept_read}
use Rattle.lfs_share.proofs.files.SharedStoreFileStore.read.Goals as goal

pub invariant_of-self : goal.invariant_of-self
invariant_of-self c =
    let old = c.self.inside.store in
    let new = c.read.new.self in
    let same = same_state old new c.read.ensures.still in
    let held = same_share old new c.self.inside.most (ap (λ (s : StoreState). s.content) same)
    (ap (λ (s : StoreState). s.shape) same) c.self.invariant.1 c.self.invariant.2 in
    (kept_read old new c.read.ensures.still c.self.invariant.0, held.0, held.1)
