use Rattle.std.proofs.Common.{rules}
use Rattle.lfs_types.proofs.request.copied_rename.Goals as goal

pub returns : goal.returns
returns c = search rules
