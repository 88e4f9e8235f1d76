use Rattle.std.proofs.Common.{rules, arith, ap, ◌∙◌}
use Rattle.std.proofs.lemmas.Grind.{common_steps}
use Rattle.lfs_inodes.specs.Reading.{fields_in}
use Rattle.lfs_log.proofs.PackingLemmas.{decoded_slot, record_in-read}
use Rattle.lfs_log.proofs.packing.inode_in.Goals as goal

pub returns-clause-record : goal.returns-clause-record
returns-clause-record c = record_in-read c.args.block.now c.args.index c.decode.result (c.decode.ensures.reading
    ∙ ap fields_in c.slot.ensures.bytes)

pub returns-clause-packed : goal.returns-clause-packed
returns-clause-packed c = λ inodes p. decoded_slot _ _ _ _ c.slot.ensures.bytes
    (p.slots c.args.index c.requires) c.decode.ensures.only c.decode.ensures.unused

pub returns-clause-reading : goal.returns-clause-reading
returns-clause-reading c = search rules

pub returns-clause-bounds : goal.returns-clause-bounds
returns-clause-bounds c = grind (arith, common_steps)
