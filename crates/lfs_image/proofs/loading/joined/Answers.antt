use Rattle.lfs_segments.specs.Memory.{IsLaidOut}
use Rattle.lfs_image.proofs.ImageLemmas.{stands_apart}
use Rattle.lfs_image.proofs.loading.joined.Goals as goal

pub returns-in-None-clause-fault : goal.returns-in-None-clause-fault
returns-in-None-clause-fault c =
    let laid : IsLaidOut c.args.segments = rw (← c.segments.view_is) c.segments.invariant in
    stands_apart c.args.bytes.now c.args.head.now c.args.segments c.args.ifile c.requires.reads c.requires.blocks
    c.requires.active
    laid c.inodes.ensures.formed c.requires.stands c.in-None.ensures.none
