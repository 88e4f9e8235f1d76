use Rattle.std.proofs.Common.{◌≡◌, true, [], ◌∷◌, Err, sym, ap, ◌∙◌}
use Rattle.std.proofs.lemmas.Bool.{cond-true}
use Rattle.std.proofs.lemmas.Result.{err_from_is_err_and}
use Rattle.lfs_types.specs.Kinds.{is_directory_kind}
use Rattle.lfs_types.specs.declared.rule.Rule.TheVariants.{IsEmpty}
use Rattle.lfs_model.specs.Rules.{asks, judged}
use Rattle.lfs_model.proofs.Deciding.{ask_met}
use Rattle.lfs_calls.proofs.Directories.{dir_stored}
use Rattle.lfs_calls.proofs.RowLemmas.{directory_empty}
use Rattle.lfs_checks.proofs.TestLemmas.{ask_stops}
use Rattle.lfs_calls.proofs.removing.may_rmdir.Goals as goal

pub returns-in_err-ask-clause-judge : goal.returns-in_err-ask-clause-judge
returns-in_err-ask-clause-judge g c w v =
    let p = err_from_is_err_and c.from_residual.result c.from_residual.ensures.1 in
    ask_stops _ _ _ c.is_directory.ensures c.in_err-ask.ensures (p.1 ∙ ap Err p.2)

pub is_empty_directory-empty-requires : goal.is_empty_directory-empty-requires
is_empty_directory-empty-requires g c =
    let t = c.requires.world in
    let row = c.args.row.now in
    dir_stored t.1.shows row.number row.attrs c.requires.shown (sym c.is_directory.ensures
    ∙ ask_met c.is_directory.result _ _ c.in_ok-ask.ensures)

pub returns-clause-judge : goal.returns-clause-judge
returns-clause-judge g c w v =
    let row = c.args.row.now in
    let kind : is_directory_kind row.attrs.kind ≡ true = sym c.is_directory.ensures
    ∙ ask_met c.is_directory.result _ _ c.in_ok-ask.ensures in
    let empty = directory_empty (g.F.FileStore.state c.args.store.now).content w v.shows row.number row.attrs
    c.requires.shown kind c.is_empty_directory-empty.result c.is_empty_directory-empty.ensures.empty in
    c.ask-2.ensures ∙ ap (λ b. judged (asks b IsEmpty 0 c.args.at ∷ [])) empty ∙ sym (cond-true _ _ _ kind)
