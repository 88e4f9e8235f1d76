use Rattle.std.proofs.Common.{None, Some, refl, rules, sym, subst}
use Rattle.lfs_mount.proofs.TendingLemmas.{goes_on_none}
use Rattle.lfs_mount.specs.Runs.{GoesOn}
use Rattle.lfs_fuse_talk.specs.declared.served.Served.{Served}
use Rattle.lfs_fuse_talk.proofs.served.Served.reply.Goals as goal
use Rattle.lfs_fuse_talk.proofs.served.Served.reply.Goals.{in-Some+in_ok-answer-in-Some, in-None+in_ok-append-in-None}

pub returns-clause-served : goal.returns-clause-served
returns-clause-served g c = elim c.match-branch-2.branch [
  | in-Some+in_ok-answer-in-Some w ↦ rw (w.self-is, w.out-is) (record {
    now = c.now-now.result;
    then = c.now-now.new.self;
    others = Some w.in-Some.others.items;
    told = c.now-now.ensures;
    groups = search rules;
    answered = search rules;
  })
  | in-None+in_ok-append-in-None w ↦ rw (w.self-is, w.out-is) (record {
    now = c.now-now.result;
    then = c.now-now.new.self;
    others = None;
    told = c.now-now.ensures;
    groups = search rules;
    answered = search rules;
  })
]

pub returns-clause-journal : goal.returns-clause-journal
returns-clause-journal g c =
    let old = c.args.self.now.mount.tree.volume in
    elim c.match-branch-2.branch [
      | in-Some+in_ok-answer-in-Some w ↦ subst (λ (s : Served g.row.F.Denot g.row.P.Denot g.row.W.Denot).
          GoesOn g.F.FileStore.state old s.mount.tree.volume) (sym w.self-is) w.answer.ensures.journal
      | in-None+in_ok-append-in-None w ↦ subst (λ (s : Served g.row.F.Denot g.row.P.Denot g.row.W.Denot).
          GoesOn g.F.FileStore.state old s.mount.tree.volume) (sym w.self-is)
          (goes_on_none g.F.FileStore.state old old refl)
    ]
