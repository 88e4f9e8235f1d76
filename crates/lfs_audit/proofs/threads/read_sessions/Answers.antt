use Rattle.std.proofs.Common.{◌≡◌, length, arith}
use Rattle.lfs_audit.proofs.ThreadLemmas.{plan_split}
use Rattle.lfs_audit.proofs.threads.read_sessions.Goals as goal

pub returns-clause-split : goal.returns-clause-split
returns-clause-split g c =
    let plan = c.in_ok-plan.plan in
    let split = c.in_ok-split.ensures in
    let scripts = c.in_ok-split.field-0.1 in
    let count : length scripts.items ≡ plan.sessions = omega (arith, split.1, scripts.ok.0) in
    plan_split (g.R.Read.remaining c.args.reader.now) plan c.in_ok-split.field-0.0 scripts.items
    c.in_ok-plan.ensures.plan split.0 count split.2
