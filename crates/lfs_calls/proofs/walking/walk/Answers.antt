use Rattle.std.proofs.Common.{◌≡◌, ◌+◌, drop, [], Err, sym, ap, ◌∙◌, arith}
use Rattle.std.proofs.lemmas.List.{drop_all}
use Rattle.std.proofs.lemmas.Result.{err_from_is_err_and}
use Rattle.lfs_calls.proofs.CallLemmas.{still}
use Rattle.lfs_model.specs.Walks.{walked}
use Rattle.lfs_model.proofs.WalkLemmas.{names_left, walked_on, walked_end, stepped-child}
use Rattle.lfs_calls.proofs.StepLemmas.{child-stored}
use Rattle.lfs_calls.proofs.walking.walk.Goals as goal

pub step-requires-clause-world : goal.step-requires-clause-world
step-requires-clause-world g c = let t = c.requires.world in (t.0, still c.loop-at.invariant.state t.1)

pub returns-in_err-dir-clause-walk : goal.returns-in_err-dir-clause-walk
returns-in_err-dir-clause-walk g c w v =
    let here = still c.loop-at.invariant.state v in
    let p = err_from_is_err_and c.from_residual.result c.from_residual.ensures.1 in
    p.1 ∙ ap Err p.2
    ∙ sym (c.loop-at.invariant.walk w v
    ∙ ap (walked w.rows c.args.cred.now c.args.path c.loop-at.at c.loop-at.dir)
    (names_left c.args.names.now c.loop-at.at c.index-names-at.result c.loop-at-test.true c.index-names-at.is)
    ∙ walked_on w.rows c.args.cred.now c.args.path c.loop-at.at c.loop-at.dir c.index-names-at.result
    (drop (c.loop-at.at + 1) c.args.names.now) _ (c.in_err-dir.ensures.step w here))

pub loop-at-preserved : goal.loop-at-preserved
loop-at-preserved g c = record {
  walk = λ w v.
      let here = still c.loop-at.invariant.state v in
      c.loop-at.invariant.walk w v
      ∙ ap (walked w.rows c.args.cred.now c.args.path c.loop-at.at c.loop-at.dir)
      (names_left c.args.names.now c.loop-at.at c.index-names-at.result c.loop-at-test.true c.index-names-at.is)
      ∙ walked_on w.rows c.args.cred.now c.args.path c.loop-at.at c.loop-at.dir c.index-names-at.result
      (drop (c.loop-at.at + 1) c.args.names.now) _ (c.in_ok-dir.ensures.step w here);
  used =
      let t = c.requires.world in
      let here = still c.loop-at.invariant.state t.1 in
      let is = stepped-child t.0.rows c.args.cred.now c.args.path c.loop-at.at c.loop-at.dir c.index-names-at.result
      c.in_ok-dir.dir (c.in_ok-dir.ensures.step t.0 here) in
      child-stored (g.F.FileStore.state c.step.new.store).content t.0
      (still c.step.ensures.state here).shows c.loop-at.dir c.index-names-at.result c.in_ok-dir.dir is;
  state = c.step.ensures.state ∙ c.loop-at.invariant.state;
}

pub returns-clause-walk : goal.returns-clause-walk
returns-clause-walk g c w v =
    let none : drop c.loop-at.at c.args.names.now ≡ [] = drop_all c.loop-at.at c.args.names.now (omega arith) in
    sym (c.loop-at.invariant.walk w v ∙ ap (walked w.rows c.args.cred.now c.args.path c.loop-at.at c.loop-at.dir) none
    ∙ walked_end w.rows c.args.cred.now c.args.path c.loop-at.at c.loop-at.dir)
