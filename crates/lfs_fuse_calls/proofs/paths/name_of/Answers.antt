use Rattle.lfs_fuse_calls.proofs.paths.name_of.Goals as goal

pub returns-in-Err-clause-lacks : goal.returns-in-Err-clause-lacks
returns-in-Err-clause-lacks c = c.error_of_name.ensures.lacks c.args.bytes.now c.in-Err.ensures
