use Rattle.std.proofs.Common.{rules}
use Rattle.lfs_logstore.proofs.files.LogStoreFileStore.least_free.Goals as goal

pub returns : goal.returns
returns c = search rules
