use Rattle.std.proofs.Common.{ap}
use Rattle.lfs_ifile.specs.Tables.{Tables, with_state}
use Rattle.lfs_ifile.proofs.tables.Ifile.set_state.Goals as goal

pub returns-clause-after : goal.returns-clause-after
returns-clause-after c = ap (λ (t : Tables). with_state t c.args.seg c.args.state) c.self.view_is
