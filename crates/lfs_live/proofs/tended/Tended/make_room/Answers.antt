use Rattle.std.proofs.Common.{inl, refl}
use Rattle.lfs_live.proofs.FlushLemmas.{let_go_gone, let_go_room, let_go_same}
use Rattle.lfs_live.proofs.tended.Tended.make_room.Goals as goal

pub returns-then-takes_more-clause-gone : goal.returns-then-takes_more-clause-gone
returns-then-takes_more-clause-gone g c = inl refl

pub returns-then-takes_more-clause-room : goal.returns-then-takes_more-clause-room
returns-then-takes_more-clause-room g c = λ _. c.takes_more.ensures c.if-takes_more.true

pub returns-clause-gone : goal.returns-clause-gone
returns-clause-gone g c = let_go_gone g.F.FileStore.state c.args.self.now c.let_go.new.self c.let_go.result
    c.let_go.ensures.gone c.let_go.ensures.begins

pub returns-clause-room : goal.returns-clause-room
returns-clause-room g c = let_go_room c.args.self.now c.let_go.new.self c.let_go.result c.let_go.ensures.gone

pub returns-clause-same : goal.returns-clause-same
returns-clause-same g c = let_go_same c.args.self.now c.let_go.new.self c.let_go.result c.let_go.ensures.gone
    c.let_go.ensures.failed
