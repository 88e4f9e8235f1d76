use Rattle.std.proofs.Common.{Err, sym, ap, subst, ◌∙◌}
use Rattle.std.specs.Prelude.{ok_or}
use Rattle.std.proofs.lemmas.Result.{err_from_is_err_and}
use Rattle.lfs_types.specs.Stored.{bytes_of}
use Rattle.lfs_dirs.specs.Directory.{number_in}
use Rattle.lfs_calls.specs.Content.{HasBlocks, IsDirectoryAt, all_entries}
use Rattle.lfs_model.proofs.Deciding.{judged_all, met_first}
use Rattle.lfs_model.specs.Rules.{searching_tests}
use Rattle.lfs_calls.proofs.Directories.{dir_stored, directory_at}
use Rattle.lfs_calls.proofs.StepLemmas.{steps_barred, steps_on}
use Rattle.lfs_calls.proofs.walking.step.Goals as goal

pub returns-in_err-may_search-clause-step : goal.returns-in_err-may_search-clause-step
returns-in_err-may_search-clause-step g c w v =
    let p = err_from_is_err_and c.from_residual.result c.from_residual.ensures.1 in
    p.1 ∙ ap Err p.2
    ∙ sym (steps_barred (g.F.FileStore.state c.args.store.now).content w v.shows c.args.cred.now c.args.site.path
    c.args.site.at c.args.dir c.args.name.now c.in-Some.attrs c.in-Some.ensures.attrs
    c.in_err-may_search.field-0.0 (sym c.in_err-may_search.ensures))

pub look_up-requires-clause-stored : goal.look_up-requires-clause-stored
look_up-requires-clause-stored g c =
    let met = judged_all (searching_tests c.args.cred.now c.args.site.path c.in-Some.attrs c.args.site.at)
    (sym c.in_ok-may_search.ensures) in
    subst (λ x. HasBlocks (g.F.FileStore.state x).content c.args.dir c.in-Some.attrs.size) (sym c.in-Some.ensures.same)
    (dir_stored c.requires.world.1.shows c.args.dir c.in-Some.attrs c.in-Some.ensures.attrs (met_first _ _ _ met).0)

pub look_up-requires-clause-directory : goal.look_up-requires-clause-directory
look_up-requires-clause-directory g c =
    let met = judged_all (searching_tests c.args.cred.now c.args.site.path c.in-Some.attrs c.args.site.at)
    (sym c.in_ok-may_search.ensures) in
    subst (λ x. IsDirectoryAt (g.F.FileStore.state x).content c.args.dir) (sym c.in-Some.ensures.same)
    (directory_at c.requires.world.1.shows c.args.dir c.in-Some.attrs c.in-Some.ensures.attrs (met_first _ _ _ met).0)

pub returns-clause-step : goal.returns-clause-step
returns-clause-step g c w v =
    let met = judged_all (searching_tests c.args.cred.now c.args.site.path c.in-Some.attrs c.args.site.at)
    (sym c.in_ok-may_search.ensures) in
    let kind = met_first _ _ _ met in
    let search = met_first _ _ _ kind.1 in
    c.ok_or.ensures.value ∙ ap (ok_or c.look_up.result) c.denial.ensures
    ∙ steps_on (g.F.FileStore.state c.args.store.now).content w v.shows c.args.cred.now c.args.site.path c.args.site.at
    c.args.dir c.args.name.now c.in-Some.attrs c.in-Some.ensures.attrs
    kind.0 search.0 c.look_up.result
    (c.look_up.ensures.found ∙ ap (λ x. number_in c.args.name.now
    (all_entries (bytes_of (g.F.FileStore.state x).content c.args.dir))) c.in-Some.ensures.same)
