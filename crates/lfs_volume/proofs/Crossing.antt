-- A volume may go to another thread where its store may: `volume_send`, for lfs_server. Each of its fields may, and
-- what it remembers of the store is a ghost, which has no bytes.
use denote.RattleType.{RattleType}
use denote.Struct.Declared as declared
use denote.Param.Send.{AllSend, IsSend, recorded_send, sendable, struct_send, view_send}
use Rattle.std.proofs.Crossing.{crosses}
use Rattle.lfs_types.proofs.level.Level.TheSendSync as level
use Rattle.lfs_types.specs.declared.store.FileStore.{Ghosts}
use Rattle.lfs_calls.proofs.cached_store.CachedStore.TheSendSync as tree
use Rattle.lfs_model.proofs.counts.Counts.TheSendSync as counts
use Rattle.lfs_model.proofs.journal.Entry.TheSendSync as entry
use Rattle.lfs_volume.specs.contracts.volume.Volume.{the_row}
use Rattle.lfs_volume.specs.contracts.volume.Volume.TheInside.{the_field, the_type}

pub volume_send : (F : RattleType) (g : Ghosts F.Denot) → IsSend F → IsSend (the_row F g)
volume_send F g sent =
    let T = the_type F g in
    let all : AllSend (declared.fields T) = (
      search (sendable, crosses, tree.the_send),
      (
        level.the_field_send,
        (
          search (sendable, crosses),
          (
            level.the_field_send,
            (search (sendable, crosses, entry.the_send), (counts.the_field_send, (search (sendable, crosses), tt))),
          ),
        ),
      ),
    ) in
    view_send _ _ _ _ _ (recorded_send (the_field F g).row _ _ T.to_one (struct_send (declared.shape T) all))
