use Rattle.std.proofs.Common.{rules}
use Rattle.lfs_flatfiles.proofs.flat_files.root_attrs.Goals as goal

pub returns : goal.returns
returns c = search rules
