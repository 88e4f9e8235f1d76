use Rattle.lfs_explain.proofs.Pushed.{pushed}
use Rattle.lfs_explain.proofs.telling.push.Goals as goal

pub returns : goal.returns
returns c = pushed c.extend_from_slice.result c.extend_from_slice.new.self.items c.args.checks.now.items c.args.more.now
    c.extend_from_slice.ensures.items
