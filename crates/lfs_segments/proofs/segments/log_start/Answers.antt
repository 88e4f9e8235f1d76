use Rattle.std.proofs.Common.{rules}
use Rattle.lfs_segments.proofs.segments.log_start.Goals as goal

pub returns-then-segment-eq0 : goal.returns-then-segment-eq0
returns-then-segment-eq0 c = search rules
