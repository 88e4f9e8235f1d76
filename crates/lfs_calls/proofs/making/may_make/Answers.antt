use Rattle.std.proofs.Common.{◌≡◌, ◌+◌, Bool, true, false, ◌∷◌, Err, sym, ap, ◌∙◌}
use Rattle.std.specs.Prelude.{is_none, not}
use Rattle.std.proofs.lemmas.Result.{err_from_is_err_and}
use Rattle.lfs_types.specs.Kinds.{is_directory_kind}
use Rattle.lfs_types.specs.Tree.{World}
use Rattle.lfs_types.specs.declared.rule.Rule.TheVariants.{NameFree}
use Rattle.lfs_model.specs.Rules.{asks, judged, making_tests}
use Rattle.lfs_model.specs.World.{child}
use Rattle.lfs_model.proofs.Deciding.{judged_all, judged_behind, judged_front, met_first}
use Rattle.lfs_model.specs.Rules.{entering_tests, searching_tests}
use Rattle.lfs_checks.proofs.TestLemmas.{ask_stops, ask_passes}
use Rattle.lfs_calls.specs.Volumes.{IsVolume}
use Rattle.lfs_calls.proofs.Directories.{directory_at, dir_stored}
use Rattle.lfs_calls.proofs.StepLemmas.{child_listed}
use Rattle.lfs_calls.proofs.making.may_make.Goals as goal
use Rattle.lfs_calls.proofs.making.may_make.Goals.{After-is_none-free}

pub look_up-requires : goal.look_up-requires
look_up-requires g c =
    let t = c.requires.world in
    let dir = c.args.dir.now in
    let met = judged_all (searching_tests c.args.cred.now 0 dir.attrs c.args.at) (sym c.in_ok-may_search.ensures) in
    record {
      stored = dir_stored t.1.shows dir.number dir.attrs c.requires.shown (met_first _ _ _ met).0;
      directory = directory_at t.1.shows dir.number dir.attrs c.requires.shown (met_first _ _ _ met).0;
    }

-- what isn't there is none
none_is : (none some : Bool) → some ≡ not none → none ≡ not some
none_is true some e = sym (ap not e)
none_is false some e = sym (ap not e)

-- whether a row has the name is whether the directory lists it
free_is : (g : _) (c : After-is_none-free g) (w : World) → IsVolume (g.F.FileStore.state c.args.store.now) w
    → c.is_none-free.result ≡ is_none (child w.rows c.args.dir.now.number c.args.name.now)
free_is g c w v =
    let dir = c.args.dir.now in
    let met = judged_all (searching_tests c.args.cred.now 0 dir.attrs c.args.at) (sym c.in_ok-may_search.ensures) in
    let kind : is_directory_kind dir.attrs.kind ≡ true = (met_first _ _ _ met).0 in
    none_is _ _ c.is_none-free.ensures ∙ ap is_none (c.look_up.ensures.found
    ∙ child_listed (g.F.FileStore.state c.args.store.now).content w v.shows dir.number dir.attrs c.requires.shown
    kind c.args.name.now)

pub returns-in_err-may_search-clause-judge : goal.returns-in_err-may_search-clause-judge
returns-in_err-may_search-clause-judge g c w v =
    let p = err_from_is_err_and c.from_residual.result c.from_residual.ensures.1 in
    let dir = c.args.dir.now in
    let free = is_none (child w.rows dir.number c.args.name.now) in
    p.1 ∙ ap Err p.2
    ∙ sym (judged_front (searching_tests c.args.cred.now 0 dir.attrs c.args.at) (asks free NameFree 0 (c.args.at + 1)
    ∷ entering_tests c.args.cred.now 0 dir.attrs c.args.at) c.in_err-may_search.field-0.0
    (sym c.in_err-may_search.ensures))

-- search is granted: the other tests decide
behind : (g : _) (c : After-is_none-free g) (w : World)
    → judged (making_tests c.args.cred.now (is_none (child w.rows c.args.dir.now.number c.args.name.now))
    c.args.dir.now.attrs c.args.at)
    ≡ judged (asks (is_none (child w.rows c.args.dir.now.number c.args.name.now)) NameFree 0 (c.args.at + 1)
    ∷ entering_tests c.args.cred.now 0 c.args.dir.now.attrs c.args.at)
behind g c w =
    let dir = c.args.dir.now in
    let free = is_none (child w.rows dir.number c.args.name.now) in
    judged_behind (searching_tests c.args.cred.now 0 dir.attrs c.args.at) (asks free NameFree 0 (c.args.at + 1)
    ∷ entering_tests c.args.cred.now 0 dir.attrs c.args.at) (sym c.in_ok-may_search.ensures)

pub returns-in_err-ask-clause-judge : goal.returns-in_err-ask-clause-judge
returns-in_err-ask-clause-judge g c w v =
    let k = (goal.at.returns-in_err-ask-clause-judge g c).After-is_none-free in
    let p = err_from_is_err_and c.from_residual-in_err-ask.result c.from_residual-in_err-ask.ensures.1 in
    ask_stops _ _ _ (free_is g k w v) c.in_err-ask.ensures (p.1 ∙ ap Err p.2) ∙ sym (behind g k w)

pub returns-clause-judge : goal.returns-clause-judge
returns-clause-judge g c w v =
    let k = (goal.at.returns-clause-judge g c).After-is_none-free in
    ask_passes _ _ (free_is g k w v) c.in_ok-ask.ensures c.may_enter.ensures ∙ sym (behind g k w)
