use Rattle.std.proofs.Common.{◌≡◌, ℕ, ◌==◌, [], length, Option, None, Some, Err, sym, ap, subst, ◌∙◌}
use Rattle.std.specs.Prelude.{◌↔◌, IsTrue, MatchOption, not}
use Rattle.std.proofs.lemmas.Result.{err_from_is_err_and}
use Rattle.lfs_types.specs.Stored.{bytes_of, shown_attrs}
use Rattle.lfs_types.specs.Tree.{Content, World}
use Rattle.lfs_model.specs.World.{children}
use Rattle.lfs_model.specs.Rules.{entering_tests, first_failing, placing_tests}
use Rattle.lfs_model.proofs.Deciding.{judged_none}
use Rattle.lfs_calls.specs.Content.{HasBlocks, all_entries}
use Rattle.lfs_calls.specs.Volumes.{IsVolume}
use Rattle.lfs_calls.specs.declared.walking.Reached.{Reached}
use Rattle.lfs_calls.proofs.AskLemmas.{denies}
use Rattle.lfs_calls.proofs.Directories.{dir_stored}
use Rattle.lfs_calls.proofs.RowLemmas.{directory_empty}
use Rattle.lfs_calls.proofs.ThereLemmas.{file_empty, free_tests, full_is, gives_is, there_kept, there_unlike}
use Rattle.lfs_calls.proofs.arriving.judge_there.Goals as goal
use Rattle.lfs_calls.proofs.arriving.judge_there.Goals.{After-ask, then-not-is_directory, else-not-is_directory}

-- what the judge gives back: what has the name, as the store shows it
abbrev Gives : Content → Option ℕ → Option Reached → Type 0
Gives c o there = MatchOption there (o ≡ None) (λ row. (Some row.number ≡ o)
    × (Some row.attrs ≡ shown_attrs c row.number))

-- what was found of the row there is whether it is empty
empty_is : (g : _) (c : After-ask g) (w : World) → IsVolume (g.F.FileStore.state c.args.store.now) w
    → c.if-not-is_directory.empty ≡ (length (children w.rows c.in-Some.number) == 0)
empty_is g c w v = elim c.if-not-is_directory.branch [
  | then-not-is_directory b ↦ b.empty-is ∙ ap not b.if-not-is_directory.true
      ∙ sym (file_empty (g.F.FileStore.state c.args.store.now).content w v.shows v.tree c.args.cred.now
      c.args.moved.now.number c.args.arrival.now.dir.number c.args.moved.now.attrs c.args.arrival.now.dir.attrs
      c.requires.moved c.requires.dir c.args.at c.in-Some.number c.in-Some-learn_attrs.attrs
      c.in-Some-learn_attrs.ensures.attrs (sym b.if-not-is_directory.ensures))
  | else-not-is_directory b ↦ b.empty-is ∙ directory_empty
      (g.F.FileStore.state c.args.store.now).content w v.shows c.in-Some.number c.in-Some-learn_attrs.attrs
      c.in-Some-learn_attrs.ensures.attrs (sym b.if-not-is_directory.ensures) b.is_empty_directory-empty.result
      (subst (λ x. IsTrue b.is_empty_directory-empty.result
      ↔ (all_entries (bytes_of (g.F.FileStore.state x).content c.in-Some.number) ≡ []))
      c.in-Some-learn_attrs.ensures.same b.is_empty_directory-empty.ensures.empty)
]

pub returns-in_err-may_enter-clause-judge : goal.returns-in_err-may_enter-clause-judge
returns-in_err-may_enter-clause-judge g c w v =
    let content = (g.F.FileStore.state c.args.store.now).content in
    let p = err_from_is_err_and c.from_residual.result c.from_residual.ensures.1 in
    denies (placing_tests w.rows c.args.cred.now c.args.moved.now.number c.args.arrival.now.dir.number
    c.args.arrival.now.there c.args.at) (Gives content c.args.arrival.now.there) (p.1 ∙ ap Err p.2)
    (ap (λ o. first_failing (placing_tests w.rows c.args.cred.now c.args.moved.now.number c.args.arrival.now.dir.number
    o c.args.at)) c.in_default.is
    ∙ free_tests content w v.shows v.tree c.args.cred.now c.args.moved.now.number c.args.arrival.now.dir.number
    c.args.moved.now.attrs c.args.arrival.now.dir.attrs c.requires.moved c.requires.dir c.args.at
    ∙ judged_none (entering_tests c.args.cred.now 1 c.args.arrival.now.dir.attrs c.args.at) c.in_err-may_enter.field-0.0
    (sym c.in_err-may_enter.ensures))

pub returns-in_err-may_remove-clause-judge : goal.returns-in_err-may_remove-clause-judge
returns-in_err-may_remove-clause-judge g c w v =
    let content = (g.F.FileStore.state c.args.store.now).content in
    let p = err_from_is_err_and c.from_residual-in_err-may_remove.result c.from_residual-in_err-may_remove.ensures.1 in
    denies (placing_tests w.rows c.args.cred.now c.args.moved.now.number c.args.arrival.now.dir.number
    c.args.arrival.now.there c.args.at) (Gives content c.args.arrival.now.there) (p.1 ∙ ap Err p.2)
    (ap (λ o. first_failing (placing_tests w.rows c.args.cred.now c.args.moved.now.number c.args.arrival.now.dir.number
    o c.args.at)) c.in-Some.is
    ∙ there_kept content w v.shows v.tree c.args.cred.now c.args.moved.now.number c.args.arrival.now.dir.number
    c.args.moved.now.attrs c.args.arrival.now.dir.attrs c.requires.moved c.requires.dir c.args.at
    c.in-Some.number c.in-Some-learn_attrs.attrs c.in-Some-learn_attrs.ensures.attrs c.in_err-may_remove.field-0.0
    c.in_err-may_remove.ensures)

pub returns-in_err-may_replace-clause-judge : goal.returns-in_err-may_replace-clause-judge
returns-in_err-may_replace-clause-judge g c w v =
    let content = (g.F.FileStore.state c.args.store.now).content in
    let p = err_from_is_err_and c.from_residual-in_err-may_replace.result c.from_residual-in_err-may_replace.ensures.1
    in
    denies (placing_tests w.rows c.args.cred.now c.args.moved.now.number c.args.arrival.now.dir.number
    c.args.arrival.now.there c.args.at) (Gives content c.args.arrival.now.there) (p.1 ∙ ap Err p.2)
    (ap (λ o. first_failing (placing_tests w.rows c.args.cred.now c.args.moved.now.number c.args.arrival.now.dir.number
    o c.args.at)) c.in-Some.is
    ∙ there_unlike content w v.shows v.tree c.args.cred.now c.args.moved.now.number c.args.arrival.now.dir.number
    c.args.moved.now.attrs c.args.arrival.now.dir.attrs c.requires.moved c.requires.dir c.args.at
    c.in-Some.number c.in-Some-learn_attrs.attrs c.in-Some-learn_attrs.ensures.attrs c.in_ok-may_remove.ensures
    c.in_err-may_replace.field-0.0 c.in_err-may_replace.ensures)

pub is_empty_directory-empty-requires : goal.is_empty_directory-empty-requires
is_empty_directory-empty-requires g c =
    let t = c.requires.world in
    subst (λ x. HasBlocks (g.F.FileStore.state x).content c.in-Some.number c.in-Some-learn_attrs.attrs.size)
    (sym c.in-Some-learn_attrs.ensures.same)
    (dir_stored t.1.shows c.in-Some.number c.in-Some-learn_attrs.attrs c.in-Some-learn_attrs.ensures.attrs
    (sym c.if-not-is_directory.ensures))

pub returns-in_err-ask-clause-judge : goal.returns-in_err-ask-clause-judge
returns-in_err-ask-clause-judge g c w v =
    let k = (goal.at.returns-in_err-ask-clause-judge g c).After-ask in
    let content = (g.F.FileStore.state c.args.store.now).content in
    let p = err_from_is_err_and c.from_residual-in_err-ask.result c.from_residual-in_err-ask.ensures.1 in
    denies (placing_tests w.rows c.args.cred.now c.args.moved.now.number c.args.arrival.now.dir.number
    c.args.arrival.now.there c.args.at) (Gives content c.args.arrival.now.there) (p.1 ∙ ap Err p.2)
    (ap (λ o. first_failing (placing_tests w.rows c.args.cred.now c.args.moved.now.number c.args.arrival.now.dir.number
    o c.args.at)) c.in-Some.is
    ∙ full_is content w v.shows v.tree c.args.cred.now c.args.moved.now.number c.args.arrival.now.dir.number
    c.args.moved.now.attrs c.args.arrival.now.dir.attrs c.requires.moved c.requires.dir c.args.at
    c.in-Some.number c.in-Some-learn_attrs.attrs c.in-Some-learn_attrs.ensures.attrs c.in_ok-may_remove.ensures
    c.in_ok-may_replace.ensures c.if-not-is_directory.empty
    (empty_is g k w v) c.in_err-ask.field-0.0 c.in_err-ask.ensures)

pub returns-clause-judge : goal.returns-clause-judge
returns-clause-judge g c w v =
    let k = (goal.at.returns-clause-judge g c).After-ask in
    let content = (g.F.FileStore.state c.args.store.now).content in (
      ap (λ o. first_failing (placing_tests w.rows c.args.cred.now c.args.moved.now.number c.args.arrival.now.dir.number
          o c.args.at)) c.in-Some.is
          ∙ gives_is content w v.shows v.tree c.args.cred.now c.args.moved.now.number c.args.arrival.now.dir.number
          c.args.moved.now.attrs c.args.arrival.now.dir.attrs c.requires.moved c.requires.dir c.args.at
          c.in-Some.number c.in-Some-learn_attrs.attrs c.in-Some-learn_attrs.ensures.attrs c.in_ok-may_remove.ensures
          c.in_ok-may_replace.ensures c.if-not-is_directory.empty (empty_is g k w v) c.in_ok-ask.ensures,
      (sym c.in-Some.is, c.in-Some-learn_attrs.ensures.attrs),
    )
