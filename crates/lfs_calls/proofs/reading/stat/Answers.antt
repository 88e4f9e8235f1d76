use Rattle.std.proofs.Common.{refl}
use Rattle.std.proofs.lemmas.Result.{err_from_is_err_and}
use Rattle.lfs_types.specs.declared.answer.Served.TheVariants as served
use Rattle.lfs_calls.proofs.CallLemmas.{shown}
use Rattle.lfs_calls.proofs.PathLemmas.{stat_path, not_reached, serves}
use Rattle.lfs_calls.proofs.ReadLemmas.{stat_answer}
use Rattle.lfs_calls.proofs.reading.stat.Goals as goal

pub returns-in_err-file-clause-call : goal.returns-in_err-file-clause-call
returns-in_err-file-clause-call g c level =
    let p = err_from_is_err_and c.from_residual.result c.from_residual.ensures.1 in
    rw (p.1, p.2) (not_reached (stat_path level c.args.cred.now c.args.path.now) c.find.ensures.state
    c.in_err-file.field-0.0 c.in_err-file.ensures.reach)

pub returns-clause-call : goal.returns-clause-call
returns-clause-call g c level =
    let file = c.in_ok-file.file in
    let leads = c.in_ok-file.ensures.reach in
    shown level c.find.ensures.state (served.Stat file.number (record file.attrs { size = c.shown_size-size.result }))
    (serves (stat_path level c.args.cred.now c.args.path.now) file leads _ refl refl (λ w h. h) (λ w h. h))
    (λ w v. let r = leads w v in
    stat_answer (g.F.FileStore.state c.args.store.now).content w v.shows c.args.cred.now c.args.path.now file.number
    file.attrs r.0 r.1 c.shown_size-size.result c.shown_size-size.ensures.directory c.shown_size-size.ensures.file)
    (λ w. refl)
    (λ w n dir. refl)
