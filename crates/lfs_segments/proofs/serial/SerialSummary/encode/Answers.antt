use Rattle.lfs_segments.proofs.SerialLemmas.{same_serial_spelling, serial_spelled, summary_entries-serial, told_in-spelled}
use Rattle.lfs_segments.proofs.serial.SerialSummary.encode.Goals as goal

pub returns-clause-spelled : goal.returns-clause-spelled
returns-clause-spelled c =
    let written = c.put_word.ensures in
    serial_spelled c.encode-block.result c.put_word.new.block c.args.self.now
    (record { before = λ i below. written.before i below; after = λ i past. written.after i past })
    c.encode-block.ensures.spelled written.written

pub returns-clause-only : goal.returns-clause-only
returns-clause-only c = λ bytes block spelled.
    same_serial_spelling bytes c.put_word.new.block c.args.self.now block c.put_word.ensures.bytes spelled
    (returns-clause-spelled c)

pub returns-clause-told : goal.returns-clause-told
returns-clause-told c =
    told_in-spelled c.put_word.new.block c.args.self.now c.put_word.ensures.bytes.whole (returns-clause-spelled c)

pub returns-clause-apart : goal.returns-clause-apart
returns-clause-apart c =
    summary_entries-serial c.put_word.new.block c.args.self.now c.put_word.ensures.bytes.whole
    (returns-clause-spelled c)
