use Rattle.std.proofs.Common.{ap, is_some}
use Rattle.lfs_auditing.proofs.EndLemmas.{of_file, of_reader}
use Rattle.lfs_auditing.proofs.program.run.Goals as goal

pub returns-in-Ok : goal.returns-in-Ok
returns-in-Ok g c =
    of_file g.F.File.Read.remaining c.args.options.now (g.R.Read.remaining c.args.stdin.now) c.audit.result
    (ap (λ o. is_some o) c.in-Some.is) c.in-Ok.file c.audit.ensures

pub returns-in-None : goal.returns-in-None
returns-in-None g c =
    of_reader g.F.File.Read.remaining c.args.options.now (g.R.Read.remaining c.args.stdin.now) c.audit-in-None.result
    c.in-None.is c.audit-in-None.ensures
