use Rattle.std.proofs.Common.{arith}
use Rattle.lfs_inodes.proofs.Numbers.{Puts-from_write}
use Rattle.lfs_inodes.proofs.bytes.put_u32.Goals as goal

pub returns : goal.returns
returns c = Puts-from_write c.args.bytes.now c.write_u32.new.buf c.args.at 4 c.args.number (omega arith)
    (omega arith) c.write_u32.ensures
    (λ k. omega (arith, c.type_inv.bytes k))
