use Rattle.std.proofs.Common.{refl, arith}
use Rattle.lfs_parts.proofs.SameLogLemmas.{used_low}
use Rattle.lfs_staging.proofs.StagingLemmas.{staged_record}
use Rattle.lfs_staging.proofs.staging.stage_record.Goals as goal

pub put-requires-clause-numbered : goal.put-requires-clause-numbered
put-requires-clause-numbered c =
    let low = used_low c.args.parts.now c.args.inode.number c.requires.in_use in
    let most = c.requires.parts.formed.inodes_most in
    omega arith

pub returns : goal.returns
returns c = staged_record c.args.parts.now _ c.args.inode refl refl c.put.ensures c.requires.in_use
