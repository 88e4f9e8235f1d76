use Rattle.std.proofs.Common.{arith}
use Rattle.lfs_segwrite.proofs.AheadLemmas.{makes_changes, waits_few}
use Rattle.lfs_segwrite.proofs.BoundLemmas.{all_in_reach, frames_most, needs_few, peak_most, records_most}
use Rattle.lfs_segwrite.proofs.applying.apply.Goals as goal

pub check_room-requires-clause-reach : goal.check_room-requires-clause-reach
check_room-requires-clause-reach c = all_in_reach _ c.args.changes.now _ c.requires.can.few_bytes c.requires.can.each

pub check_room-requires-clause-frames : goal.check_room-requires-clause-frames
check_room-requires-clause-frames c = frames_most _ c.args.changes.now _ c.requires.can

pub check_room-requires-clause-records : goal.check_room-requires-clause-records
check_room-requires-clause-records c = let most = records_most c.args.changes.now in omega (arith, c.requires.can.few)

pub make_way-requires-clause-reach : goal.make_way-requires-clause-reach
make_way-requires-clause-reach c = all_in_reach _ c.args.changes.now _ c.requires.can.few_bytes c.requires.can.each

pub make_way-requires-clause-frames : goal.make_way-requires-clause-frames
make_way-requires-clause-frames c = let most = peak_most _ c.args.changes.now _ c.requires.can in omega arith

pub stage_changes-requires-clause-reach : goal.stage_changes-requires-clause-reach
stage_changes-requires-clause-reach c = all_in_reach _ c.args.changes.now _ c.requires.can.few_bytes c.requires.can.each

pub returns-clause-made : goal.returns-clause-made
returns-clause-made c =
    let frames = frames_most _ c.args.changes.now _ c.requires.can in
    let records = records_most c.args.changes.now in
    makes_changes c.args.by c.args.changes.now c.args.parts.now c.make_way.new.parts c.stage_changes.new.parts
    c.requires.room c.in_ok-check_room.ensures.has
    (waits_few c.args.parts.now c.requires.store)
    (needs_few c.args.changes.now frames (omega (arith, c.requires.can.few)))
    (peak_most _ c.args.changes.now _ c.requires.can) c.requires.can.few c.make_way.ensures
    c.stage_changes.ensures
