use Rattle.lfs_image.proofs.LoadingLemmas.{stored_parts}
use Rattle.lfs_rescue.proofs.building.store_over.Goals as goal

pub over-requires-2-clause-store : goal.over-requires-2-clause-store
over-requires-2-clause-store c =
    rw (stored_parts c.in_ok-parts.parts c.args.log c.args.frames
    c.in_ok-parts.ensures.log c.in_ok-parts.ensures.cache c.in_ok-parts.ensures.no_record)
    (c.requires.stored c.args.frames)
