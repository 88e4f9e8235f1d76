use Rattle.std.proofs.Common.{ap, ◌∙◌}
use Rattle.lfs_mount.specs.Room.{one_used}
use Rattle.lfs_mount.proofs.RoomLemmas.{used_more, used_none}
use Rattle.lfs_mount.proofs.room.used.Goals as goal

pub loop-number-init : goal.loop-number-init
loop-number-init g c = record { is = used_none (g.F.FileStore.state c.args.store.now).content }

pub loop-number-preserved : goal.loop-number-preserved
loop-number-preserved g c =
    let content = (g.F.FileStore.state c.args.store.now).content in
    record {
      is = c.saturating_add-count.ensures
          ∙ used_more content c.loop-number.number c.loop-number.count c.one_used.result c.loop-number.invariant.is
          (c.one_used.ensures ∙ ap one_used c.attrs.ensures);
    }
