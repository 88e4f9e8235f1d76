use Rattle.std.proofs.Common.{rules, refl}
use Rattle.lfs_fuse_talk.specs.Serving.{server_of}
use Rattle.lfs_fuse_talk.proofs.CourseLemmas.{answered_of, same_held}
use Rattle.lfs_fuse_talk.specs.declared.served.Served.{Served}
use Rattle.lfs_fuse_talk.proofs.served.ServedAnswerer.answer.Goals as goal

pub returns-clause-answered : goal.returns-clause-answered
returns-clause-answered g c =
    let new : Served g.row.F.Denot g.row.P.Denot g.row.W.Denot = record {
      mount = c.give-is_kept.new.mount;
      outside = c.reply.new.self.outside;
      ledger = c.give-is_kept.new.self;
      clean = c.reply.new.self.clean;
    } in
    answered_of g.W.Write.contents (server_of g.F.FileStore.state g.F.FileStore.is_flushed g.P.Outside.time
    g.P.Outside.groups) c.in-Some.header _ c.args.self.now c.reply.new.self new c.args.message.now
    c.in_ok-reply.reply.items (λ v. v.items) c.told_or_lost.result c.give-is_kept.result (search rules)
    c.in_ok-reply.ensures.served c.in_ok-reply.ensures.journal c.reply.ensures.ledger
    (same_held c.reply.new.self.mount.tree.volume c.reply.new.self new c.give-is_kept.ensures.nodes
    c.give-is_kept.ensures.beside c.give-is_kept.ensures.sizes refl)
    c.give-is_kept.ensures.taken c.give-is_kept.ensures.lost c.told_or_lost.ensures.kept c.told_or_lost.ensures.lost
