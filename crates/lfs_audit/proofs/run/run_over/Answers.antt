use Rattle.std.proofs.Common.{rules}
use Rattle.lfs_audit.proofs.FaultLemmas.{has_plan, late_faults, reading_fault}
use Rattle.lfs_audit.proofs.run.run_over.Goals as goal

pub returns-in_err-lines-clause-unwritten : goal.returns-in_err-lines-clause-unwritten
returns-in_err-lines-clause-unwritten g c = search rules

pub returns-in_err-lines-clause-fault : goal.returns-in_err-lines-clause-fault
returns-in_err-lines-clause-fault g c =
    let fault = reading_fault (g.R.Read.remaining c.args.reader.now) c.in_err-lines.field-0.0
    c.in_err-lines.ensures.fault in search rules

pub returns-clause-written : goal.returns-clause-written
returns-clause-written g c = search rules

pub returns-clause-fault : goal.returns-clause-fault
returns-clause-fault g c = late_faults _ c.run_plan.result
    (has_plan _ c.in_ok-lines.lines c.in_ok-lines.ensures.plan) c.run_plan.ensures.fault
