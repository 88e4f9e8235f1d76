use Rattle.lfs_reach.proofs.BlockLemmas.{record_of-far, record_of-here, record_of-none}
use Rattle.lfs_reach.proofs.blocks.record_of.Goals as goal

pub returns-then-place-lt4 : goal.returns-then-place-lt4
returns-then-place-lt4 c = record_of-here c.args.memory.now c.args.place.now c.in-Some.place c.decode.result _ _ c.in-Some.is
    c.if-place-lt4.true c.bytes_at.ensures c.slot.ensures.bytes c.decode.ensures.reading

pub returns-else-place-lt4 : goal.returns-else-place-lt4
returns-else-place-lt4 c = record_of-far c.args.memory.now c.args.place.now c.in-Some.place c.in-Some.is c.if-place-lt4.false

pub returns-in-None : goal.returns-in-None
returns-in-None c = record_of-none c.args.memory.now c.args.place.now c.in-None.is
