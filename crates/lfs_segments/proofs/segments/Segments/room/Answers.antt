use Rattle.std.proofs.Common.{ap}
use Rattle.lfs_segments.specs.Memory.{room_of}
use Rattle.lfs_segments.proofs.segments.Segments.room.Goals as goal

pub returns-clause-room : goal.returns-clause-room
returns-clause-room c = ap room_of c.self.view_is
