use Rattle.std.proofs.Common.{rules}
use Rattle.lfs_io.proofs.output.write_text.Goals as goal

pub returns-in-Ok : goal.returns-in-Ok
returns-in-Ok g c = search rules
