use Rattle.std.proofs.Common.{ap}
use Rattle.lfs_segments.specs.Memory.{next_address}
use Rattle.lfs_segments.proofs.segments.Segments.next_address.Goals as goal

pub returns-clause-address : goal.returns-clause-address
returns-clause-address c = ap next_address c.self.view_is
