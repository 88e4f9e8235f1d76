use Rattle.std.proofs.Common.{rules}
use Rattle.lfs_logstore.proofs.files.LogStoreFileStore.attrs.Goals as goal

pub returns : goal.returns
returns c = search rules
