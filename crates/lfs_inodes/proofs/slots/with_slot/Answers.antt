use Rattle.std.proofs.Common.{◌+◌, ◌-◌, ◌*◌, arith}
use Rattle.lfs_inodes.proofs.FourSlots.{slots-put}
use Rattle.lfs_inodes.proofs.slots.with_slot.Goals as goal

pub returns : goal.returns
returns c = rw c.copy_from_slice.ensures.after
    (slots-put c.args.block.now c.args.bytes.now c.args.index (128 * (c.args.index + 1) - 128 * c.args.index)
    (omega arith) (omega arith) c.requires (omega arith))
