use Rattle.std.proofs.Common.{rules}
use Rattle.lfs_flatfiles.proofs.flat_files.place.Place.make_room.Goals as goal

pub returns-clause-same : goal.returns-clause-same
returns-clause-same c = search rules
