use Rattle.std.proofs.Common.{rules}
use Rattle.lfs_checks.proofs.attributes.shown_size.Goals as goal

pub returns-else-is_directory-clause-directory : goal.returns-else-is_directory-clause-directory
returns-else-is_directory-clause-directory c = search rules
