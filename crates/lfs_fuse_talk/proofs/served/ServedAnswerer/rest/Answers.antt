use Rattle.std.proofs.Common.{refl, ◌∙◌}
use Rattle.std.proofs.lemmas.Result.{on_ok_weaker}
use Rattle.lfs_fuse_talk.proofs.CourseLemmas.{rested_on, same_held}
use Rattle.lfs_fuse_talk.specs.declared.served.Served.{Served}
use Rattle.lfs_fuse_talk.proofs.served.ServedAnswerer.rest.Goals as goal

pub returns-clause-rested : goal.returns-clause-rested
returns-clause-rested g c =
    let new : Served g.row.F.Denot g.row.P.Denot g.row.W.Denot = record {
      mount = c.go_on.new.mount;
      outside = c.args.self.now.outside;
      ledger = c.go_on.new.self;
      clean = c.args.self.now.clean;
    } in
    on_ok_weaker c.go_on.result
    (λ moved. rested_on g.W.Write.contents g.F.FileStore.state c.args.self.now new c.tend.new.self.tree.volume
    c.tend.ensures.content c.tend.ensures.level c.tend.ensures.journal
    (same_held c.tend.new.self.tree.volume c.args.self.now new (c.go_on.ensures.nodes ∙ c.tend.ensures.nodes)
    (c.go_on.ensures.beside ∙ c.tend.ensures.beside) (c.go_on.ensures.sizes ∙ c.tend.ensures.sizes) refl) moved)
    c.go_on.ensures.moved
