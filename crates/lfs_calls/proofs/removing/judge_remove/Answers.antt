use Rattle.std.proofs.Common.{rules, Err, sym, ap, ◌∙◌}
use Rattle.lfs_calls.specs.Volumes.{IsVolume}
use Rattle.lfs_calls.proofs.CallLemmas.{still}
use Rattle.lfs_calls.proofs.StateLemmas.{same_content}
use Rattle.std.proofs.lemmas.Result.{err_from_is_err_and}
use Rattle.lfs_types.specs.Stored.{shown_attrs}
use Rattle.lfs_types.specs.Tree.{World, Content}
use Rattle.lfs_model.specs.Rules.{removing, removing_tests}
use Rattle.lfs_model.proofs.Deciding.{judged_all, judged_none}
use Rattle.lfs_calls.specs.Removes.{IsRemoval}
use Rattle.lfs_calls.proofs.AskLemmas.{denies}
use Rattle.lfs_calls.proofs.MakeLemmas.{Way}
use Rattle.lfs_calls.proofs.RemoveLemmas.{remove_denied, remove_stopped, remove_decided, removal_is}
use Rattle.lfs_calls.proofs.StepLemmas.{not_shown, child-stored}
use Rattle.lfs_model.proofs.WalkLemmas.{stepped-child}
use Rattle.lfs_calls.proofs.removing.judge_remove.Goals as goal
use Rattle.lfs_calls.proofs.removing.judge_remove.Goals.{In_ok-dir}

-- the content before, as the store has it at the call
abbrev before : (g : _) (c : In_ok-dir g) → Content
before g c = (g.F.FileStore.state c.args.store.now).content

-- the way to the directory
way : (g : _) (c : In_ok-dir g) (w : World) → IsVolume (g.F.FileStore.state c.args.store.now) w
    → Way (before g c) w c.args.cred.now 0 c.args.names.now c.in-Some.parents.now c.in-Some.name.now
    c.in_ok-dir.dir.number c.in_ok-dir.dir.attrs
way g c w v =
    let r = c.in_ok-dir.ensures.reach w v in
    record {
      shows = v.shows;
      names_are = c.in-Some.ensures.cases.0;
      count = c.in-Some.ensures.cases.1;
      leads = r.0;
      shown = r.1;
    }

pub returns-in_err-dir-clause-judge : goal.returns-in_err-dir-clause-judge
returns-in_err-dir-clause-judge g c w v =
    let p = err_from_is_err_and c.from_residual.result c.from_residual.ensures.1 in
    denies (removing w.rows c.args.cred.now c.args.names.now)
    (IsRemoval (g.F.FileStore.state c.args.store.now).content w.rows c.args.names.now) (p.1 ∙ ap Err p.2)
    (remove_denied w.rows c.args.cred.now c.args.names.now c.in-Some.parents.now c.in-Some.name.now
    c.in-Some.ensures.cases.0 c.in-Some.ensures.cases.1 c.in_err-dir.field-0.0 (c.in_err-dir.ensures.reach w v))

pub step-requires-clause-world : goal.step-requires-clause-world
step-requires-clause-world g c = let t = c.requires.world in (t.0, still c.reach.ensures.state t.1)

pub returns-in_err-number-clause-judge : goal.returns-in_err-number-clause-judge
returns-in_err-number-clause-judge g c w v =
    let k = (goal.at.returns-in_err-number-clause-judge g c).In_ok-dir in
    let p = err_from_is_err_and c.from_residual-in_err-number.result c.from_residual-in_err-number.ensures.1 in
    let here = still c.reach.ensures.state v in
    denies (removing w.rows c.args.cred.now c.args.names.now)
    (IsRemoval (g.F.FileStore.state c.args.store.now).content w.rows c.args.names.now) (p.1 ∙ ap Err p.2)
    (remove_stopped (way g k w v) c.component-at.result c.component-at.ensures c.in_err-number.field-0.0
    (c.in_err-number.ensures.step w here))

pub unreachable-requires : goal.unreachable-requires
unreachable-requires g c =
    let t = c.requires.world in
    let here = still c.reach.ensures.state t.1 in
    let after = still c.step.ensures.state here in
    not_shown (g.F.FileStore.state c.step.new.store).content c.in_ok-number.number
    (child-stored (g.F.FileStore.state c.step.new.store).content t.0 after.shows c.in_ok-dir.dir.number
    c.in-Some.name.now c.in_ok-number.number
    (stepped-child t.0.rows c.args.cred.now 0 c.component-at.result c.in_ok-dir.dir.number c.in-Some.name.now
    c.in_ok-number.number (c.in_ok-number.ensures.step t.0 here)))
    c.in_default-learn_attrs.ensures.attrs

pub returns-in_err-may_remove-clause-judge : goal.returns-in_err-may_remove-clause-judge
returns-in_err-may_remove-clause-judge g c w v =
    let k = (goal.at.returns-in_err-may_remove-clause-judge g c).In_ok-dir in
    let p = err_from_is_err_and c.from_residual-in_err-may_remove.result c.from_residual-in_err-may_remove.ensures.1 in
    let here = still c.reach.ensures.state v in
    let shown = c.in-Some-learn_attrs.ensures.attrs
    ∙ ap (λ x. shown_attrs x c.in_ok-number.number) ((same_content c.step.ensures.state)
    ∙ (same_content c.reach.ensures.state)) in
    let tests = removing_tests c.args.cred.now 0 c.in_ok-dir.dir.attrs c.in-Some-learn_attrs.attrs c.component-at.result
    in
    denies (removing w.rows c.args.cred.now c.args.names.now)
    (IsRemoval (g.F.FileStore.state c.args.store.now).content w.rows c.args.names.now) (p.1 ∙ ap Err p.2)
    (remove_decided (way g k w v) c.component-at.result c.component-at.ensures c.in_ok-number.number
    c.in-Some-learn_attrs.attrs (c.in_ok-number.ensures.step w here) shown
    ∙ judged_none tests c.in_err-may_remove.field-0.0 (sym c.in_err-may_remove.ensures))

pub returns-clause-judge : goal.returns-clause-judge
returns-clause-judge g c w v =
    let k = (goal.at.returns-clause-judge g c).In_ok-dir in
    let here = still c.reach.ensures.state v in
    let shown = c.in-Some-learn_attrs.ensures.attrs
    ∙ ap (λ x. shown_attrs x c.in_ok-number.number) ((same_content c.step.ensures.state)
    ∙ (same_content c.reach.ensures.state)) in
    let tests = removing_tests c.args.cred.now 0 c.in_ok-dir.dir.attrs c.in-Some-learn_attrs.attrs c.component-at.result
    in (
      remove_decided (way g k w v) c.component-at.result c.component-at.ensures c.in_ok-number.number
          c.in-Some-learn_attrs.attrs (c.in_ok-number.ensures.step w here) shown
          ∙ judged_all tests (sym c.in_ok-may_remove.ensures),
      removal_is (way g k w v) c.component-at.result c.component-at.ensures c.in_ok-number.number
          c.in-Some-learn_attrs.attrs (c.in_ok-number.ensures.step w here) shown,
    )

pub returns-in_default-clause-judge : goal.returns-in_default-clause-judge
returns-in_default-clause-judge g c = search rules
