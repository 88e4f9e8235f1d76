use Rattle.std.proofs.Common.{Some, None, sym}
use Rattle.lfs_recovery.proofs.WholeLemmas.{has_record-read}
use Rattle.lfs_recovery.proofs.whole.has_record.Goals as goal

pub returns-in-Some : goal.returns-in-Some
returns-in-Some c = sym (has_record-read c.args.memory.now c.args.address _ _ (Some c.in-Some.field-0) c.block.ensures.block
    c.slot.ensures.bytes c.in-Some.ensures.reading)

pub returns-in-None : goal.returns-in-None
returns-in-None c = sym (has_record-read c.args.memory.now c.args.address _ _ None c.block.ensures.block
    c.slot.ensures.bytes c.in-None.ensures.reading)
