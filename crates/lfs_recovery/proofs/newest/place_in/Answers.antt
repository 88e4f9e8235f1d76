use Rattle.std.proofs.Common.{Some, None}
use Rattle.lfs_recovery.proofs.NewestLemmas.{place-read}
use Rattle.lfs_recovery.proofs.newest.place_in.Goals as goal

pub returns-in-Some-clause-place : goal.returns-in-Some-clause-place
returns-in-Some-clause-place c = place-read c.args.serial c.args.address c.args.index _ c.args.block.now (Some c.in-Some.inode)
    c.slot.ensures.bytes c.in-Some.ensures.reading

pub returns-in-None-clause-place : goal.returns-in-None-clause-place
returns-in-None-clause-place c = place-read c.args.serial c.args.address c.args.index _ c.args.block.now None
    c.slot.ensures.bytes c.in-None.ensures.reading
