use Rattle.lfs_fsck.proofs.StoreLemmas.{is_stored}
use Rattle.lfs_fsck.proofs.checking.check_parts.Goals as goal

pub returns-clause-ok : goal.returns-clause-ok
returns-clause-ok c =
    is_stored c.args.log.now c.in_ok-counts.counts.items c.check_room.ensures.kept c.in_ok-counts.ensures.end
    c.in_ok-counts.ensures.counted c.in_ok-counts.ensures.files c.in_ok-check_live.ensures.ok c.in_ok-check_room.ensures.ok
