use Rattle.lfs_auditing.proofs.EndLemmas.{ends_asked, ends_audit, ends_unasked}
use Rattle.lfs_auditing.proofs.program.lfs_audit_trail.Goals as goal

pub returns-in-Ok : goal.returns-in-Ok
returns-in-Ok g c =
    let remaining = g.F.File.Read.remaining in
    let known = g.R.Read.remaining c.args.streams.now.stdin in
    let ends = ends_audit remaining c.in-Ok.options known c.end.result c.args.streams.now.stderr c.end.new.stderr
    c.run.result
    c.run.ensures c.end.ensures in
    ends_asked remaining known c.end.result c.args.streams.now.stdin _ c.args.streams.now.stdout _
    c.args.streams.now.stderr c.end.new.stderr
    c.options_of.result c.in-Ok.options c.in-Ok.is c.options_of.ensures.ranges ends

pub returns : goal.returns
returns g c =
    let known = g.R.Read.remaining c.args.streams.now.stdin in
    ends_unasked g.F.File.Read.remaining known c.refuse.result c.args.streams.now.stdin c.args.streams.now.stdout
    c.refuse.new.stdout
    c.args.streams.now.stderr c.refuse.new.stderr c.options_of.result c.in-Err.error c.in-Err.is
    c.options_of.ensures.ranges c.refuse.ensures
