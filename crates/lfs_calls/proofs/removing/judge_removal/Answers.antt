use Rattle.std.proofs.Common.{◌==◌, length, Err, sym, ap, ◌∙◌}
use Rattle.std.proofs.lemmas.Result.{err_from_is_err_and}
use Rattle.lfs_model.specs.Rules.{rule_table}
use Rattle.lfs_model.specs.World.{children}
use Rattle.lfs_model.proofs.Deciding.{judged_all, judged_none}
use Rattle.lfs_calls.specs.Removes.{IsRemovable, removal_request, removed_tests}
use Rattle.lfs_calls.proofs.AskLemmas.{denies}
use Rattle.lfs_calls.proofs.CallLemmas.{still}
use Rattle.lfs_calls.proofs.RowLemmas.{removal_denied, to_removal, removed_childless}
use Rattle.lfs_calls.proofs.removing.judge_removal.Goals as goal

pub returns-in_err-removal-clause-judge : goal.returns-in_err-removal-clause-judge
returns-in_err-removal-clause-judge g c w v =
    let p = err_from_is_err_and c.from_residual.result c.from_residual.ensures.1 in
    denies (rule_table w c.args.cred.now (removal_request c.args.kind c.args.names.now))
    (IsRemovable (g.F.FileStore.state c.args.store.now).content w.rows c.args.names.now) (p.1 ∙ ap Err p.2)
    (removal_denied w c.args.cred.now c.args.names.now c.args.kind c.in_err-removal.field-0.0
    (c.in_err-removal.ensures.judge w v))

pub may_be_removed-requires-clause-world : goal.may_be_removed-requires-clause-world
may_be_removed-requires-clause-world g c = let t = c.requires.world in (t.0, still c.judge_remove.ensures.state t.1)

pub returns-in_err-may_be_removed-clause-judge : goal.returns-in_err-may_be_removed-clause-judge
returns-in_err-may_be_removed-clause-judge g c w v =
    let p = err_from_is_err_and c.from_residual-in_err-may_be_removed.result
    c.from_residual-in_err-may_be_removed.ensures.1 in
    let is = c.in_ok-removal.ensures.judge w v in
    let file = c.in_ok-removal.removal.file in
    denies (rule_table w c.args.cred.now (removal_request c.args.kind c.args.names.now))
    (IsRemovable (g.F.FileStore.state c.args.store.now).content w.rows c.args.names.now) (p.1 ∙ ap Err p.2)
    (to_removal (g.F.FileStore.state c.args.store.now).content w v.shows c.args.cred.now c.args.names.now
    c.in_ok-removal.removal is.0 is.1 c.component.result c.component.ensures c.args.kind
    ∙ judged_none (removed_tests c.args.kind (length (children w.rows file.number) == 0) file.attrs c.component.result)
    c.in_err-may_be_removed.field-0.0 (sym (c.in_err-may_be_removed.ensures.judge w
    (still c.judge_remove.ensures.state v))))

pub returns-clause-judge : goal.returns-clause-judge
returns-clause-judge g c w v =
    let is = c.in_ok-removal.ensures.judge w v in
    let file = c.in_ok-removal.removal.file in
    let met = judged_all (removed_tests c.args.kind
    (length (children w.rows file.number) == 0) file.attrs c.component.result)
    (sym (c.in_ok-may_be_removed.ensures.judge w (still c.judge_remove.ensures.state v))) in (
      to_removal (g.F.FileStore.state c.args.store.now).content w v.shows c.args.cred.now c.args.names.now
          c.in_ok-removal.removal is.0 is.1 c.component.result c.component.ensures c.args.kind ∙ met,
      record {
        is = is.1;
        childless = removed_childless
            (g.F.FileStore.state c.args.store.now).content w v.shows v.tree file.number file.attrs is.1.shown_file
            c.args.kind c.component.result met;
      },
    )
