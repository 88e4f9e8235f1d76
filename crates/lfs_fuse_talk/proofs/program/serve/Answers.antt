use Rattle.std.proofs.Common.{false, true, IfSome, sym, subst, ◌∙◌}
use Rattle.std.proofs.lemmas.Result.{err_from_is_err_and}
use Rattle.lfs_fuse_wire.specs.declared.framing.Frame.TheVariants.{Partial, Bad}
use Rattle.lfs_fuse_talk.specs.Images.{IsKept}
use Rattle.lfs_fuse_talk.specs.Serving.{HasServed, kind_with, server_of}
use Rattle.lfs_fuse_talk.proofs.CourseLemmas.{served_all, shut_asked}
use Rattle.lfs_fuse_talk.proofs.EndLemmas.{broken_save, broken_talk}
use Rattle.lfs_fuse_talk.proofs.program.serve.Goals as goal

pub returns-in_err-talked-clause-broken : goal.returns-in_err-talked-clause-broken
returns-in_err-talked-clause-broken g c =
    let kind = kind_with (server_of g.F.FileStore.state g.F.FileStore.is_flushed g.P.Outside.time g.P.Outside.groups)
    g.F.OnLog.stand in
    let contents = g.S.File.Write.contents in
    let exit = err_from_is_err_and c.from_residual.result c.from_residual.ensures.1 in
    rw (exit.1, exit.2)
    (broken_talk kind.stand.refuses c.args.options.now (HasServed contents kind c.args.options.now _ _ _ _) _
    c.is_open-is_kept.result c.in_err-talked.ensures.fault
    (λ is. served_all contents kind c.args.options.now c.requires.0 c.args.served c.talk-talked.new.answerer _ _ _ _ Bad
    false c.is_open-is_kept.result false c.requires.1 (c.in_err-talked.ensures.bad is) (sym c.is_open-is_kept.ensures)
    (λ no. absurd (cc))))

pub returns-in_err-saved-clause-broken : goal.returns-in_err-saved-clause-broken
returns-in_err-saved-clause-broken g c =
    let kind = kind_with (server_of g.F.FileStore.state g.F.FileStore.is_flushed g.P.Outside.time g.P.Outside.groups)
    g.F.OnLog.stand in
    let contents = g.S.File.Write.contents in
    let exit = err_from_is_err_and c.from_residual-in_err-saved.result
    c.from_residual-in_err-saved.ensures.1 in
    rw (exit.1, exit.2)
    (broken_save kind.stand.refuses c.args.options.now (HasServed contents kind c.args.options.now _ _ _ _) _
    c.in_ok-talked.talked.is_whole c.is_open-is_kept.result c.in_err-saved.ensures.fault
    (served_all contents kind c.args.options.now c.requires.0 c.args.served c.talk-talked.new.answerer _ _ _ _ Partial
    c.in_ok-talked.talked.is_whole c.is_open-is_kept.result false c.requires.1 c.in_ok-talked.ensures.talked
    (sym c.is_open-is_kept.ensures) (λ no. absurd (cc))))

pub returns-then-is_kept-clause-served : goal.returns-then-is_kept-clause-served
returns-then-is_kept-clause-served g c =
    let kind = kind_with (server_of g.F.FileStore.state g.F.FileStore.is_flushed g.P.Outside.time g.P.Outside.groups)
    g.F.OnLog.stand in
    let contents = g.S.File.Write.contents in
    served_all contents kind c.args.options.now c.requires.0 c.args.served
    c.talk-talked.new.answerer _ _ _ _ Partial c.in_ok-talked.talked.is_whole true true c.requires.1
    c.in_ok-talked.ensures.talked (sym c.is_open-is_kept.ensures ∙ c.if-is_kept.true)
    (λ _. subst (λ m. IfSome c.args.options.now.image (λ _. IsKept contents kind.server.state m.tree.volume))
    c.into_mount-mount.ensures c.in_ok-saved.ensures.kept)

pub returns-clause-broken : goal.returns-clause-broken
returns-clause-broken g c =
    let kind = kind_with (server_of g.F.FileStore.state g.F.FileStore.is_flushed g.P.Outside.time g.P.Outside.groups)
    g.F.OnLog.stand in
    let contents = g.S.File.Write.contents in
    let shut = sym c.is_open-is_kept.ensures ∙ c.if-is_kept.false in (
      shut_asked contents kind c.args.options.now c.requires.0 c.args.served c.talk-talked.new.answerer _ _ _ _ Partial
          c.in_ok-talked.talked.is_whole c.requires.1 c.in_ok-talked.ensures.talked shut,
      c.in_ok-talked.talked.is_whole,
      served_all contents kind c.args.options.now c.requires.0 c.args.served c.talk-talked.new.answerer _ _ _ _ Partial
          c.in_ok-talked.talked.is_whole false true c.requires.1 c.in_ok-talked.ensures.talked shut
          (λ _. subst (λ m. IfSome c.args.options.now.image (λ _. IsKept contents kind.server.state m.tree.volume))
          c.into_mount-mount.ensures c.in_ok-saved.ensures.kept),
    )
