use Rattle.lfs_logstore.specs.States.{state_of}
use Rattle.lfs_share.proofs.GrowthLemmas.{same_share}
use Rattle.lfs_share.proofs.ShareLemmas.{kept_room, room_shape}
use Rattle.lfs_share.proofs.cleaning.SharedStoreCleanedStore.gain_room.Goals as goal

pub invariant_of-self : goal.invariant_of-self
invariant_of-self c =
    let old = c.self.inside.store in
    let new = c.gain_room.new.self in
    let said = c.gain_room.ensures in
    let held = same_share old new c.self.inside.most said.content
    (room_shape (state_of old) (state_of new) c.gain_room.result said.gained said.failed)
    c.self.invariant.1 c.self.invariant.2 in (
      kept_room old new c.gain_room.result said.given c.self.invariant.0,
      held.0,
      held.1,
    )
