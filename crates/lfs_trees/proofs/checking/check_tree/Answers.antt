use Rattle.std.proofs.Common.{◌≡◌, Result, Err, sym, ap, subst, ◌∙◌}
use Rattle.std.specs.Prelude.{IfErr}
use Rattle.std.proofs.lemmas.Result.{IfErr-weaker, err_from_is_err_and, on_ok_weaker}
use Rattle.lfs_types.specs.StoreStates.{StoreState}
use Rattle.lfs_types.specs.Tree.{Content}
use Rattle.lfs_calls.specs.Volumes.{HasWorld}
use Rattle.lfs_calls.proofs.StateLemmas.{same_content}
use Rattle.lfs_trees.specs.declared.fault.TreeFault.{TreeFault}
use Rattle.lfs_trees.specs.declared.fault.TreeFault.TheVariants.{Memory}
use Rattle.lfs_trees.specs.Faults.{IsTreeFaultOf}
use Rattle.lfs_trees.specs.Walks.{HasAll, IsLeftOut}
use Rattle.lfs_trees.proofs.Ending.{has_world, left_out}
use Rattle.lfs_trees.proofs.Refuting.{no_world}
use Rattle.lfs_trees.proofs.checking.check_tree.Goals as goal
use Rattle.lfs_trees.proofs.checking.check_tree.Given.{Over}

-- a result whose fault is one of a content says that there is no world
no_world_of : {A : Type 0} (s : StoreState) (r : Result A TreeFault) (fault : TreeFault) → r ≡ Err fault
    → IsTreeFaultOf s.content fault
    → IfErr r (λ f. (f ≡ Memory → ⊥) → HasWorld s → ⊥)
no_world_of s r fault is h = subst (λ x. IfErr x (λ f. (f ≡ Memory → ⊥) → HasWorld s → ⊥)) (sym is) (no_world s fault h)

pub returns-in_err-check_root-clause-no_world : goal.returns-in_err-check_root-clause-no_world
returns-in_err-check_root-clause-no_world g c =
    let p = err_from_is_err_and c.from_residual.result c.from_residual.ensures.1 in
    no_world_of (g.F.FileStore.state c.args.store.now) c.from_residual.result c.in_err-check_root.field-0.0 (p.1
    ∙ ap Err p.2)
    c.in_err-check_root.ensures.fault

pub returns-in_err-check_files-clause-no_world : goal.returns-in_err-check_files-clause-no_world
returns-in_err-check_files-clause-no_world g c =
    let p = err_from_is_err_and c.from_residual-in_err-check_files.result c.from_residual-in_err-check_files.ensures.1
    in
    no_world_of (g.F.FileStore.state c.args.store.now) c.from_residual-in_err-check_files.result
    c.in_err-check_files.field-0.0 (p.1 ∙ ap Err p.2)
    c.in_err-check_files.ensures.fault

pub returns-in_err-walk-clause-no_world : goal.returns-in_err-walk-clause-no_world
returns-in_err-walk-clause-no_world g c =
    let p = err_from_is_err_and c.from_residual-in_err-walk.result c.from_residual-in_err-walk.ensures.1 in
    no_world_of (g.F.FileStore.state c.args.store.now) c.from_residual-in_err-walk.result c.in_err-walk.field-0.0 (p.1
    ∙ ap Err p.2)
    c.in_err-walk.ensures.fault

pub returns-clause-ok : goal.returns-clause-ok
returns-clause-ok g c =
    let state = g.F.FileStore.state c.args.store.now in
    let walk = c.in_ok-walk.walk in
    let same = c.in_ok-walk.ensures.state in
    on_ok_weaker c.check_reached.result
    (λ all. subst HasWorld (sym same)
    (has_world state walk.order.items c.in_ok-walk.ensures.read c.in_ok-check_files.ensures.ok
    (subst (λ (x : Content). HasAll x walk) (same_content same) all)))
    c.check_reached.ensures.all

-- what the last check says
told : (g : Over) (c : goal.After-drop-walk-2 g)
    → IfErr c.check_reached.result (IsTreeFaultOf (g.F.FileStore.state c.args.store.now).content)
told g c =
    let content = (g.F.FileStore.state c.args.store.now).content in
    let walk = c.in_ok-walk.walk in
    IfErr-weaker c.check_reached.result (IsLeftOut content walk) (IsTreeFaultOf content)
    (λ fault h. left_out content walk fault c.in_ok-walk.ensures.read h)
    (subst (λ (x : Content). IfErr c.check_reached.result (IsLeftOut x walk))
    (same_content c.in_ok-walk.ensures.state) c.check_reached.ensures.fault)

pub returns-clause-fault : goal.returns-clause-fault
returns-clause-fault g c = told g c

pub returns-clause-no_world : goal.returns-clause-no_world
returns-clause-no_world g c =
    let state = g.F.FileStore.state c.args.store.now in
    IfErr-weaker c.check_reached.result (IsTreeFaultOf state.content) (λ f. (f ≡ Memory → ⊥) → HasWorld state → ⊥)
    (no_world state) (told g c)
