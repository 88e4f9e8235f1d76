use Rattle.std.proofs.Common.{ap}
use Rattle.std.specs.Prelude.{not}
use Rattle.lfs_checks.proofs.TestLemmas.{ask_ends}
use Rattle.lfs_checks.proofs.names.may_unlink.Goals as goal

pub returns : goal.returns
returns c = ask_ends _ (ap not c.is_directory.ensures) c.ask.ensures
