use Rattle.lfs_dirs.specs.Reading.{entries_of}
use Rattle.lfs_dirs.proofs.Ending.{used_is}
use Rattle.lfs_dirs.proofs.writing.used.Goals as goal

pub returns-clause-value : goal.returns-clause-value
returns-clause-value c =
    used_is c.args.block.now c.without_zeros.result.now c.without_groups.result.now (entries_of c.args.block.now) c.requires
    c.without_groups.ensures c.without_zeros.ensures.zeros c.without_zeros.ensures.last
