use Rattle.std.proofs.Common.{◌≡◌, ◌∙◌, ◌+◌, ◌-◌, ◌*◌, ap, drop, take, arith}
use Rattle.lfs_inodes.specs.Slots.{slot_of}
use Rattle.lfs_inodes.specs.Reading.{fields_in}
use Rattle.lfs_inodes.proofs.FieldsRead.{fields_in-unused}
use Rattle.lfs_inodes.proofs.FourSlots.{slot_of-zeros}
use Rattle.lfs_inodes.proofs.slots.slot.Goals as goal

pub returns-clause-bytes : goal.returns-clause-bytes
unfolding slot_of
returns-clause-bytes c =
    let size : 128 * (c.args.index + 1) - 128 * c.args.index ≡ 128 = omega arith in
    c.copy_from_slice.ensures.after ∙ ap (λ n. take n (drop (128 * c.args.index) c.args.block.now)) size

pub returns-clause-unused : goal.returns-clause-unused
returns-clause-unused c = λ zeros. returns-clause-bytes c ∙ slot_of-zeros c.args.block.now c.args.index c.requires zeros

pub returns-clause-none : goal.returns-clause-none
returns-clause-none c = λ zeros. ap fields_in (returns-clause-bytes c)
    ∙ fields_in-unused c.args.block.now c.args.index c.requires zeros
