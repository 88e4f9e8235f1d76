use Rattle.lfs_auditing.proofs.EndLemmas.{audited_by}
use Rattle.lfs_auditing.proofs.program.audit_buffered.Goals as goal

pub returns : goal.returns
returns g c =
    audited_by g.F.File.Read.remaining c.args.options.now (g.R.Read.remaining c.args.reader.now) c.in_ok-audit.audit
    c.audit_lines.result c.in_ok-audit.ensures c.audit_lines.ensures
