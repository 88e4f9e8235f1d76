use Rattle.std.proofs.Common.{◌∙◌, arith}
use Rattle.lfs_inodes.proofs.Cells.{numbers-one, numbers-put}
use Rattle.lfs_inodes.proofs.addresses.with_entry.Goals as goal

pub returns-clause-cells : goal.returns-clause-cells
returns-clause-cells c = numbers-put 128 _ _ c.args.i c.args.address c.put_u32.ensures (omega arith) c.requires

pub returns-clause-only : goal.returns-clause-only
returns-clause-only c = λ other whole bytes same.
    numbers-one 128 other _ bytes c.put_u32.ensures.bytes whole (c.put_u32.ensures.same_length ∙ c.told-block) same
