use Rattle.lfs_volume.proofs.SyncLemmas.{sync_shown}
use Rattle.lfs_mount.proofs.mount.Mount.sync.Goals as goal

pub returns-in-Served-Done-clause-shown : goal.returns-in-Served-Done-clause-shown
returns-in-Served-Done-clause-shown g c =
    let call = c.call-answer.ensures in
    sync_shown g.F.FileStore.state c.args.self.now.tree.volume c.call-answer.new.self 0 c.superuser.result
    c.call-answer.result call.entered call.legal call.since call.since_level call.follows

pub returns-clause-shown : goal.returns-clause-shown
returns-clause-shown g c =
    let call = c.call-answer.ensures in
    sync_shown g.F.FileStore.state c.args.self.now.tree.volume c.call-answer.new.self 0 c.superuser.result
    c.call-answer.result call.entered call.legal call.since call.since_level call.follows
