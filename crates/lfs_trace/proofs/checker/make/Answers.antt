use Rattle.lfs_trace.proofs.CheckLemmas.{served_checked, unserved_checked}
use Rattle.lfs_trace.proofs.checker.make.Goals as goal

pub returns-in-Ok : goal.returns-in-Ok
returns-in-Ok c segments shown may told =
    served_checked c.args.store.now c.serve.new.store c.args.level.now c.serve.new.level segments
    c.args.entry.now.cred c.args.request.now c.answered-made.result shown
    c.serve.result c.serve.ensures.call c.answered-made.ensures (c.in-Ok.ensures shown told) c.serve.ensures.level

pub returns : goal.returns
returns c segments shown may told =
    let failed = c.in-Err.ensures shown told in
    unserved_checked c.one_answer.ensures c.args.store.now c.serve.new.store c.args.level.now segments
    c.args.entry.now.cred c.args.request.now c.answered-made.result shown
    c.in-Err.fault c.serve.result c.is_plain.ensures may c.serve.ensures.call c.answered-made.ensures failed.0 failed.1
