use Rattle.std.proofs.Common.{rules}
use Rattle.lfs_flatfiles.proofs.flat_files.FlatFilesFileStore.sync.Goals as goal

pub returns-clause-applies : goal.returns-clause-applies
returns-clause-applies c = search rules
