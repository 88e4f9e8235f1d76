use Rattle.std.proofs.Common.{arith}
use Rattle.lfs_segments.proofs.SerialLemmas.{without_serial-is}
use Rattle.lfs_segments.proofs.serial.SerialSummary.without_serial.Goals as goal

pub returns : goal.returns
returns c =
    let written = c.put_word.ensures in
    without_serial-is c.args.block.now c.put_word.new.block (omega arith) written.bytes.whole
    (record { before = λ i below. written.before i below; after = λ i past. written.after i past }) written.written
