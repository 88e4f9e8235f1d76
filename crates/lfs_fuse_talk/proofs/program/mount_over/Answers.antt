use Rattle.lfs_fuse_talk.specs.Serving.{kind_with, server_of}
use Rattle.lfs_fuse_talk.proofs.EndLemmas.{ends_served}
use Rattle.lfs_fuse_talk.proofs.program.mount_over.Goals as goal

pub returns-in-Ok : goal.returns-in-Ok
returns-in-Ok g c =
    let kind = kind_with (server_of g.F.FileStore.state g.F.FileStore.is_flushed g.P.Outside.time g.P.Outside.groups)
    g.F.OnLog.stand in
    ends_served g.S.File.Write.contents kind c.args.options.now _ _ _ _ c.finish.result c.args.streams.now.stdin
    c.serve-outcome.new.streams.stdin c.args.streams.now.stdout c.serve-outcome.new.streams.stdout
    c.args.streams.now.stderr c.serve-outcome.new.streams.stderr c.finish.new.stderr c.serve-outcome.result
    c.serve-outcome.ensures.served c.serve-outcome.ensures.silent c.serve-outcome.ensures.broken c.finish.ensures
