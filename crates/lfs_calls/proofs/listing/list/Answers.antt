use Rattle.std.proofs.Common.{map, inr, refl, sym, ap, subst, ◌∙◌}
use Rattle.std.specs.List.Sorted.{IsPermutation}
use Rattle.std.proofs.lemmas.Result.{err_from_is_err_and}
use Rattle.lfs_types.specs.Stored.{bytes_of}
use Rattle.lfs_types.specs.declared.answer.Resource.TheVariants.{NoMemory}
use Rattle.lfs_types.specs.declared.answer.Served.TheVariants as served
use Rattle.lfs_types.specs.Tree.{root}
use Rattle.lfs_dirs.specs.Directory.{Entry}
use Rattle.lfs_model.specs.Rules.{list_tests}
use Rattle.lfs_model.proofs.Deciding.{judged_all, met_first, walked-reached}
use Rattle.lfs_calls.specs.Content.{AreBlocks, HasBlocks, all_entries}
use Rattle.lfs_calls.proofs.CallLemmas.{lacking, shown}
use Rattle.lfs_calls.proofs.Directories.{dir_stored, bytes_listing}
use Rattle.lfs_calls.proofs.ListLemmas.{list_answer}
use Rattle.lfs_calls.proofs.PathLemmas.{list_path, barred, not_reached, serves}
use Rattle.lfs_calls.proofs.StateLemmas.{same_content}
use Rattle.lfs_calls.proofs.listing.list.Goals as goal

pub returns-in_err-dir-clause-call : goal.returns-in_err-dir-clause-call
returns-in_err-dir-clause-call g c level =
    let p = err_from_is_err_and c.from_residual.result c.from_residual.ensures.1 in
    rw (p.1, p.2) (not_reached (list_path level c.args.cred.now c.args.path.now) c.find.ensures.state
    c.in_err-dir.field-0.0 c.in_err-dir.ensures.reach)

pub returns-in_err-may_list-clause-call : goal.returns-in_err-may_list-clause-call
returns-in_err-may_list-clause-call g c level =
    let p = err_from_is_err_and c.from_residual-in_err-may_list.result c.from_residual-in_err-may_list.ensures.1 in
    rw (p.1, p.2) (barred (list_path level c.args.cred.now c.args.path.now) c.in_ok-dir.dir c.in_ok-dir.ensures.reach
    c.find.ensures.state c.depth.result c.depth.ensures c.in_err-may_list.field-0.0 c.in_err-may_list.ensures)

pub names_of_directory-requires-clause-stored : goal.names_of_directory-requires-clause-stored
names_of_directory-requires-clause-stored g c =
    let t = c.requires in
    let dir = c.in_ok-dir.dir in
    let directory = (met_first _ _ _ (judged_all (list_tests c.args.cred.now dir.attrs c.depth.result)
    (sym c.in_ok-may_list.ensures))).0 in
    subst (λ x. HasBlocks x dir.number dir.attrs.size) (sym (same_content c.find.ensures.state))
    (dir_stored t.1.shows dir.number dir.attrs (c.in_ok-dir.ensures.reach t.0 t.1).1 directory)

pub names_of_directory-requires-clause-blocks : goal.names_of_directory-requires-clause-blocks
names_of_directory-requires-clause-blocks g c =
    let t = c.requires in
    let dir = c.in_ok-dir.dir in
    let directory = (met_first _ _ _ (judged_all (list_tests c.args.cred.now dir.attrs c.depth.result)
    (sym c.in_ok-may_list.ensures))).0 in
    subst (λ x. AreBlocks (bytes_of x dir.number)) (sym (same_content c.find.ensures.state))
    (bytes_listing t.1.shows dir.number dir.attrs (c.in_ok-dir.ensures.reach t.0 t.1).1 directory).blocks

pub returns-clause-call : goal.returns-clause-call
returns-clause-call g c level =
    let dir = c.in_ok-dir.dir in
    let leads = c.in_ok-dir.ensures.reach in
    let content = (g.F.FileStore.state c.args.store.now).content in
    let directory = (met_first _ _ _ (judged_all (list_tests c.args.cred.now dir.attrs c.depth.result)
    (sym c.in_ok-may_list.ensures))).0 in
    let names = c.in_ok-names.ensures.names
    ∙ ap (λ x. map (λ (e : Entry). e.1) (all_entries (bytes_of x dir.number))) (same_content c.find.ensures.state) in
    let moved = subst (λ ns. IsPermutation ns c.sorted.result.items) names c.sorted.ensures.permutation in
    shown level (c.names_of_directory.ensures.state ∙ c.find.ensures.state) (served.Names c.in_ok-new.field-0)
    (serves (list_path level c.args.cred.now c.args.path.now) dir leads c.depth.result c.depth.ensures
    c.in_ok-may_list.ensures (λ w h. h) (λ w h. h))
    (λ w v. let r = leads w v in
    ap served.Names c.in_ok-new.ensures
    ∙ list_answer content w v.shows v.tree c.args.path.now dir
    (walked-reached w.rows c.args.cred.now 0 0 root c.args.path.now dir.number r.0) r.1 directory
    c.sorted.result.items moved c.sorted.ensures.order)
    (λ w. refl)
    (λ w n dir. refl)

pub returns-in_err-names-clause-call : goal.returns-in_err-names-clause-call
returns-in_err-names-clause-call g c level =
    let p = err_from_is_err_and c.from_residual-in_err-names.result c.from_residual-in_err-names.ensures.1 in
    let dir = c.in_ok-dir.dir in
    rw (p.1, p.2) (lacking level (c.names_of_directory.ensures.state ∙ c.find.ensures.state) NoMemory
    (λ w v at.
    let x = serves (list_path level c.args.cred.now c.args.path.now) dir c.in_ok-dir.ensures.reach c.depth.result
    c.depth.ensures c.in_ok-may_list.ensures (λ w h. h) (λ w h. h) w v at in
    (x.allowed, x.numbered, x.roomy, inr tt)))

pub returns-in_err-new-clause-call : goal.returns-in_err-new-clause-call
returns-in_err-new-clause-call g c level =
    let p = err_from_is_err_and c.from_residual-in_err-new.result c.from_residual-in_err-new.ensures.1 in
    let dir = c.in_ok-dir.dir in
    rw (p.1, p.2) (lacking level (c.names_of_directory.ensures.state ∙ c.find.ensures.state) NoMemory
    (λ w v at.
    let x = serves (list_path level c.args.cred.now c.args.path.now) dir c.in_ok-dir.ensures.reach c.depth.result
    c.depth.ensures c.in_ok-may_list.ensures (λ w h. h) (λ w h. h) w v at in
    (x.allowed, x.numbered, x.roomy, inr tt)))
