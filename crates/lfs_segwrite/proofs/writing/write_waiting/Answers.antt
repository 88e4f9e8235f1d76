use Rattle.std.proofs.Common.{arith}
use Rattle.lfs_segwrite.proofs.AheadLemmas.{waiting_same, writes_waiting}
use Rattle.lfs_segwrite.proofs.writing.write_waiting.Goals as goal

pub flush-requires-clause-room : goal.flush-requires-clause-room
flush-requires-clause-room c =
    let same = waiting_same c.args.parts.now c.make_room.new.parts c.in-Ok.ensures.files in
    omega (arith, same, c.in-Ok.ensures.room, c.blocks_to_write-blocks.ensures.blocks)

pub returns : goal.returns
returns c =
    writes_waiting c.args.parts.now c.make_room.new.parts c.flush.new.parts c.blocks_to_write-blocks.result
    c.blocks_to_write-blocks.ensures.blocks c.in-Ok.ensures.store
    c.in-Ok.ensures.files c.in-Ok.ensures.enough c.in-Ok.ensures.opened c.in-Ok.ensures.fresh c.flush.ensures
