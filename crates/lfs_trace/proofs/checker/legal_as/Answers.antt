use Rattle.lfs_trace.proofs.CheckLemmas.{told_so}
use Rattle.lfs_trace.proofs.checker.legal_as.Goals as goal

pub returns-then-is_call : goal.returns-then-is_call
returns-then-is_call c shown told =
    told_so c.args.entry.now c.args.request.now c.args.made.now shown told (c.is_call.ensures.0 c.if-is_call.true)
