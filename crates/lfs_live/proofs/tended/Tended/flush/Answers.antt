use Rattle.lfs_volume.specs.Journals.{Begins}
use Rattle.lfs_live.proofs.FlushLemmas.{gone_on, same_twice, flush_refused}
use Rattle.lfs_live.proofs.tended.Tended.flush.Goals as goal

pub returns-clause-refused : goal.returns-clause-refused
returns-clause-refused g c = λ undone.
    let room = c.in_ok-make_room.ensures in
    flush_refused g.F.FileStore.state c.args.self.now.volume c.make_room.new.self.volume room.gone room.room
    (c.sync.ensures.refused undone)

pub returns-clause-shown : goal.returns-clause-shown
returns-clause-shown g c =
    let state = g.F.FileStore.state in
    gone_on state c.args.self.now.volume c.make_room.new.self.volume
    (Begins (state c.sync.new.self.volume.store) c.sync.new.self.volume.level) c.in_ok-make_room.ensures.gone
    c.sync.ensures.shown

pub returns-clause-same : goal.returns-clause-same
returns-clause-same g c = same_twice c.args.self.now c.make_room.new.self c.sync.new.self
    c.make_room.ensures.same c.sync.ensures.same
