use Rattle.std.proofs.Common.{◌≡◌, Err, sym, ap, ◌∙◌}
use Rattle.std.specs.Prelude.{is_none}
use Rattle.std.proofs.lemmas.Result.{err_from_is_err_and}
use Rattle.lfs_types.specs.Kinds.{is_directory_kind}
use Rattle.lfs_types.specs.Tree.{World, Content}
use Rattle.lfs_model.specs.Rules.{first_failing, making, making_tests}
use Rattle.lfs_model.specs.World.{child}
use Rattle.lfs_model.proofs.Deciding.{judged_all, judged_none, met_first}
use Rattle.lfs_calls.specs.Makes.{IsParent}
use Rattle.lfs_calls.specs.Volumes.{IsVolume}
use Rattle.lfs_calls.proofs.AskLemmas.{denies}
use Rattle.lfs_calls.proofs.CallLemmas.{still}
use Rattle.lfs_calls.proofs.MakeLemmas.{Way, make_denied, to_tests, parent_is_free}
use Rattle.lfs_calls.proofs.making.judge_make.Goals as goal
use Rattle.lfs_calls.proofs.making.judge_make.Goals.{In_ok-dir}

-- the content before, as the store has it at the call
abbrev before : (g : _) (c : In_ok-dir g) → Content
before g c = (g.F.FileStore.state c.args.store.now).content

-- the way to the directory
way : (g : _) (c : In_ok-dir g) (w : World) → IsVolume (g.F.FileStore.state c.args.store.now) w
    → Way (before g c) w c.args.cred.now 0 c.args.names.now c.in-Some.parents.now c.in-Some.name.now
    c.in_ok-dir.dir.number c.in_ok-dir.dir.attrs
way g c w v =
    let r = c.in_ok-dir.ensures.reach w v in
    record {
      shows = v.shows;
      names_are = c.in-Some.ensures.cases.0;
      count = c.in-Some.ensures.cases.1;
      leads = r.0;
      shown = r.1;
    }

-- the tests behind the walk are those of the directory
asked : (g : _) (c : In_ok-dir g) (w : World) → IsVolume (g.F.FileStore.state c.args.store.now) w
    → first_failing (making w.rows c.args.cred.now c.args.names.now)
    ≡ first_failing (making_tests c.args.cred.now
    (is_none (child w.rows c.in_ok-dir.dir.number c.in-Some.name.now)) c.in_ok-dir.dir.attrs c.component-at.result)
asked g c w v = to_tests (way g c w v) c.component-at.result c.component-at.ensures

pub returns-in_err-dir-clause-judge : goal.returns-in_err-dir-clause-judge
returns-in_err-dir-clause-judge g c w v =
    let p = err_from_is_err_and c.from_residual.result c.from_residual.ensures.1 in
    denies (making w.rows c.args.cred.now c.args.names.now)
    (IsParent (g.F.FileStore.state c.args.store.now).content w.rows c.args.names.now) (p.1 ∙ ap Err p.2)
    (make_denied w.rows c.args.cred.now c.args.names.now c.in-Some.parents.now c.in-Some.name.now
    c.in-Some.ensures.cases.0 c.in-Some.ensures.cases.1 c.in_err-dir.field-0.0 (c.in_err-dir.ensures.reach w v))

pub may_make-requires-clause-world : goal.may_make-requires-clause-world
may_make-requires-clause-world g c = let t = c.requires.world in (t.0, still c.reach.ensures.state t.1)

pub returns-in_err-may_make-clause-judge : goal.returns-in_err-may_make-clause-judge
returns-in_err-may_make-clause-judge g c w v =
    let k = (goal.at.returns-in_err-may_make-clause-judge g c).In_ok-dir in
    let p = err_from_is_err_and c.from_residual-in_err-may_make.result c.from_residual-in_err-may_make.ensures.1 in
    let tests = making_tests c.args.cred.now
    (is_none (child w.rows c.in_ok-dir.dir.number c.in-Some.name.now)) c.in_ok-dir.dir.attrs c.component-at.result
    in
    denies (making w.rows c.args.cred.now c.args.names.now)
    (IsParent (g.F.FileStore.state c.args.store.now).content w.rows c.args.names.now) (p.1 ∙ ap Err p.2)
    (asked g k w v ∙ judged_none tests c.in_err-may_make.field-0.0
    (sym (c.in_err-may_make.ensures.judge w (still c.reach.ensures.state v))))

pub returns-clause-judge : goal.returns-clause-judge
returns-clause-judge g c w v =
    let k = (goal.at.returns-clause-judge g c).In_ok-dir in
    let free = is_none (child w.rows c.in_ok-dir.dir.number c.in-Some.name.now) in
    let tests = making_tests c.args.cred.now free c.in_ok-dir.dir.attrs c.component-at.result in
    let none = judged_all tests (sym (c.in_ok-may_make.ensures.judge w (still c.reach.ensures.state v))) in
    let kind = met_first (is_directory_kind c.in_ok-dir.dir.attrs.kind) _ _ none in
    let search = met_first _ _ _ kind.1 in
    let is_free = met_first free _ _ search.1 in
    (asked g k w v ∙ none, parent_is_free (way g k w v) kind.0 is_free.0)
