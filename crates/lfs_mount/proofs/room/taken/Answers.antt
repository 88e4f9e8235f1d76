use Rattle.std.proofs.Common.{ap, ◌∙◌}
use Rattle.lfs_mount.specs.Room.{blocks_of}
use Rattle.lfs_mount.proofs.RoomLemmas.{taken_more, taken_none}
use Rattle.lfs_mount.proofs.room.taken.Goals as goal

pub loop-number-init : goal.loop-number-init
loop-number-init g c = record { is = taken_none (g.F.FileStore.state c.args.store.now).content }

pub loop-number-preserved : goal.loop-number-preserved
loop-number-preserved g c =
    let content = (g.F.FileStore.state c.args.store.now).content in
    record {
      is = c.saturating_add-count.ensures
          ∙ taken_more content c.loop-number.number c.loop-number.count c.blocks_of.result c.loop-number.invariant.is
          (c.blocks_of.ensures ∙ ap blocks_of c.attrs.ensures);
    }
