use Rattle.std.proofs.Common.{refl}
use Rattle.lfs_ifile.specs.Layout.{u32_bytes}
use Rattle.lfs_image.specs.Image.{head_bytes}
use Rattle.lfs_image.proofs.head.Head.block.Goals as goal

pub returns : goal.returns
unfolding head_bytes u32_bytes
returns c =
    rw c.write_u32-8.ensures (rw c.serial_word.ensures (rw c.write_u32-7.ensures (rw c.level_word.ensures
    (rw c.write_u32-6.ensures (rw c.write_u32-5.ensures (rw c.write_u32-4.ensures
    (rw c.write_u32-3.ensures (rw c.write_u32-2.ensures (rw c.write_u32.ensures refl)))))))))
