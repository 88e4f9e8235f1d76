use Rattle.lfs_mount.proofs.ShownLemmas.{gone_on, shown_on, went}
use Rattle.lfs_mount.proofs.laws.stay_true.Goals as goal

pub returns-clause-tended : goal.returns-clause-tended
returns-clause-tended g c old new nodes run later content goes =
    gone_on g.F.FileStore.state old nodes run new later content goes

pub returns-clause-let_go : goal.returns-clause-let_go
returns-clause-let_go g c old nodes run begun = went g.F.FileStore.state old nodes run begun

pub returns-clause-shown : goal.returns-clause-shown
returns-clause-shown g c old new nodes shows run begun = shown_on g.F.FileStore.state old new nodes shows run begun
