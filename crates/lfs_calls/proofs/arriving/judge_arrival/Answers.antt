use Rattle.std.proofs.Common.{◌≡◌, true, Some, Err, sym, ap, ◌∙◌}
use Rattle.std.proofs.lemmas.Result.{err_from_is_err_and}
use Rattle.lfs_types.specs.Kinds.{is_directory_kind}
use Rattle.lfs_types.specs.Stored.{shown_attrs}
use Rattle.lfs_types.specs.Tree.{World, Content}
use Rattle.lfs_model.specs.Rules.{arriving, searching_tests}
use Rattle.lfs_model.proofs.Deciding.{judged_all, judged_none, met_first}
use Rattle.lfs_calls.specs.Arrivals.{IsArrival}
use Rattle.lfs_calls.specs.Volumes.{IsVolume}
use Rattle.lfs_calls.proofs.ArrivalLemmas.{arrive_decided, arrive_denied, arrival_is}
use Rattle.lfs_calls.proofs.AskLemmas.{denies}
use Rattle.lfs_calls.proofs.CallLemmas.{still}
use Rattle.lfs_calls.proofs.Directories.{dir_stored, directory_at}
use Rattle.lfs_calls.proofs.MakeLemmas.{Way}
use Rattle.lfs_calls.proofs.StateLemmas.{same_content}
use Rattle.lfs_calls.proofs.StepLemmas.{child_listed}
use Rattle.lfs_calls.proofs.arriving.judge_arrival.Goals as goal
use Rattle.lfs_calls.proofs.arriving.judge_arrival.Goals.{In_ok-dir}

-- the content before, as the store has it at the call
abbrev before : (g : _) (c : In_ok-dir g) → Content
before g c = (g.F.FileStore.state c.args.store.now).content

-- the way to the directory
way : (g : _) (c : In_ok-dir g) (w : World) → IsVolume (g.F.FileStore.state c.args.store.now) w
    → Way (before g c) w c.args.cred.now 1 c.args.names.now c.in-Some.parents.now c.in-Some.name.now
    c.in_ok-dir.dir.number c.in_ok-dir.dir.attrs
way g c w v =
    let r = c.in_ok-dir.ensures.reach w v in
    record {
      shows = v.shows;
      names_are = c.in-Some.ensures.cases.0;
      count = c.in-Some.ensures.cases.1;
      leads = r.0;
      shown = r.1;
    }

-- the directory, as the store shows it after the way was walked
shown_after : (g : _) (c : In_ok-dir g) (w : World) → IsVolume (g.F.FileStore.state c.args.store.now) w
    → Some c.in_ok-dir.dir.attrs ≡ shown_attrs (g.F.FileStore.state c.reach.new.store).content c.in_ok-dir.dir.number
shown_after g c w v = (c.in_ok-dir.ensures.reach w v).1
    ∙ ap (λ x. shown_attrs x c.in_ok-dir.dir.number) (sym (same_content c.reach.ensures.state))

pub returns-in_err-dir-clause-judge : goal.returns-in_err-dir-clause-judge
returns-in_err-dir-clause-judge g c w v =
    let p = err_from_is_err_and c.from_residual.result c.from_residual.ensures.1 in
    denies (arriving w.rows c.args.cred.now c.args.names.now)
    (IsArrival (g.F.FileStore.state c.args.store.now).content w.rows c.args.names.now) (p.1 ∙ ap Err p.2)
    (arrive_denied w.rows c.args.cred.now c.args.names.now c.in-Some.parents.now c.in-Some.name.now
    c.in-Some.ensures.cases.0 c.in-Some.ensures.cases.1 c.in_err-dir.field-0.0 (c.in_err-dir.ensures.reach w v))

pub returns-in_err-may_search-clause-judge : goal.returns-in_err-may_search-clause-judge
returns-in_err-may_search-clause-judge g c w v =
    let k = (goal.at.returns-in_err-may_search-clause-judge g c).In_ok-dir in
    let p = err_from_is_err_and c.from_residual-in_err-may_search.result c.from_residual-in_err-may_search.ensures.1 in
    denies (arriving w.rows c.args.cred.now c.args.names.now)
    (IsArrival (g.F.FileStore.state c.args.store.now).content w.rows c.args.names.now) (p.1 ∙ ap Err p.2)
    (arrive_decided (way g k w v) c.component-at.result c.component-at.ensures
    ∙ judged_none (searching_tests c.args.cred.now 1 c.in_ok-dir.dir.attrs c.component-at.result)
    c.in_err-may_search.field-0.0 (sym c.in_err-may_search.ensures))

pub look_up-there-requires : goal.look_up-there-requires
look_up-there-requires g c =
    let k = (goal.at.look_up-there-requires g c).In_ok-dir in
    let t = c.requires.world in
    let met = judged_all (searching_tests c.args.cred.now 1 c.in_ok-dir.dir.attrs c.component-at.result)
    (sym c.in_ok-may_search.ensures) in
    let shows = (still c.reach.ensures.state t.1).shows in
    record {
      stored = dir_stored shows c.in_ok-dir.dir.number c.in_ok-dir.dir.attrs (shown_after g k t.0 t.1)
          (met_first _ _ _ met).0;
      directory = directory_at shows c.in_ok-dir.dir.number c.in_ok-dir.dir.attrs (shown_after g k t.0 t.1)
          (met_first _ _ _ met).0;
    }

pub returns-clause-judge : goal.returns-clause-judge
returns-clause-judge g c w v =
    let k = (goal.at.returns-clause-judge g c).In_ok-dir in
    let met = judged_all (searching_tests c.args.cred.now 1 c.in_ok-dir.dir.attrs c.component-at.result)
    (sym c.in_ok-may_search.ensures) in
    let kind : is_directory_kind c.in_ok-dir.dir.attrs.kind ≡ true = (met_first _ _ _ met).0 in (
      arrive_decided (way g k w v) c.component-at.result c.component-at.ensures ∙ met,
      arrival_is (way g k w v) kind c.look_up-there.result
          (c.look_up-there.ensures.found
          ∙ child_listed (g.F.FileStore.state c.reach.new.store).content w
          (still c.reach.ensures.state v).shows c.in_ok-dir.dir.number c.in_ok-dir.dir.attrs
          (shown_after g k w v) kind c.in-Some.name.now),
    )
