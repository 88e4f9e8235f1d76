use Rattle.std.proofs.Common.{rules}
use Rattle.lfs_types.proofs.name.Name.parse.Goals as goal

pub returns-in-Some : goal.returns-in-Some
returns-in-Some c = search rules
