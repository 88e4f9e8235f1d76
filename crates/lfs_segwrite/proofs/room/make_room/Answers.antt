use Rattle.std.proofs.Common.{rules, arith}
use Rattle.lfs_segwrite.proofs.room.make_room.Goals as goal

pub open_segment-requires-clause-some : goal.open_segment-requires-clause-some
open_segment-requires-clause-some c = omega (arith, c.clean.ensures.clean, c.if-clean-eq0.false)

pub returns-then-room-blocks-clause-room : goal.returns-then-room-blocks-clause-room
returns-then-room-blocks-clause-room c = omega (arith, c.room.ensures.room, c.if-room-blocks.true)

pub returns-clause-opened : goal.returns-clause-opened
returns-clause-opened c = λ short. (c.open_segment.ensures.clean, c.open_segment.ensures.was_clean)

pub returns-then-room-blocks-clause-opened : goal.returns-then-room-blocks-clause-opened
returns-then-room-blocks-clause-opened c = search rules
