use Rattle.lfs_segwrite.proofs.RoomLemmas.{opens_segment}
use Rattle.lfs_segwrite.proofs.room.open_segment.Goals as goal

pub returns : goal.returns
returns c =
    let e = c.in-Some.ensures in
    opens_segment c.args.parts.now c.open.new.self c.in-Some.field-0 c.requires.store e.inside e.was_clean
    c.requires.some e.opened e.ready e.kept e.step
