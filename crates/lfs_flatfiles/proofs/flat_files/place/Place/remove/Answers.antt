use Rattle.std.proofs.Common.{rules}
use Rattle.lfs_flatfiles.proofs.flat_files.place.Place.remove.Goals as goal

pub returns-clause-file : goal.returns-clause-file
returns-clause-file c = search rules
