use Rattle.std.proofs.Common.{rules}
use Rattle.lfs_logstore.proofs.files.LogStoreFileStore.clean_segments.Goals as goal

pub returns : goal.returns
returns c = search rules
