use Rattle.std.proofs.Common.{arith, ◌≡◌, ◌+◌, Ok, Err, drop, rules, sym, ap, subst, ◌∙◌}
use Rattle.std.proofs.lemmas.Grind.{common_steps}
use Rattle.lfs_calls.proofs.CallLemmas.{still}
use Rattle.lfs_model.specs.Walks.{walked}
use Rattle.lfs_model.proofs.MovedWay.{IsRest, way_further}
use Rattle.lfs_model.proofs.WalkLemmas.{names_left, walked_on, stepped-child}
use Rattle.lfs_calls.proofs.StepLemmas.{child-stored}
use Rattle.lfs_calls.proofs.renaming.judge_way.Goals as goal

pub step-requires-clause-world : goal.step-requires-clause-world
step-requires-clause-world g c = let t = c.requires.world in (t.0, still c.loop-at.invariant.state t.1)

-- the walk from the directory on goes as its first step does
pub returns-in_err-dir-clause-beneath : goal.returns-in_err-dir-clause-beneath
returns-in_err-dir-clause-beneath g c =
    let t = c.requires.world in
    let here = still c.loop-at.invariant.state t.1 in
    let leads = c.loop-at.invariant.leads t.0 t.1 in
    let on = walked_on t.0.rows c.args.cred.now 1 c.loop-at.at c.loop-at.dir c.index-names-at.result
    (drop (c.loop-at.at + 1) c.args.names.now) _ (c.in_err-dir.ensures.step t.0 here) in
    let left = ap (walked t.0.rows c.args.cred.now 1 c.loop-at.at c.loop-at.dir)
    (names_left c.args.names.now c.loop-at.at c.index-names-at.result c.loop-at-test.true c.index-names-at.is) in
    let both : Ok leads.0 ≡ Err c.in_err-dir.field-0.0 = sym leads.1 ∙ left ∙ on in
    absurd (cc)

pub loop-at-preserved : goal.loop-at-preserved
loop-at-preserved g c = record {
  rest = λ w v.
      let here = still c.loop-at.invariant.state v in
      let left = names_left c.args.names.now c.loop-at.at c.index-names-at.result c.loop-at-test.true
      c.index-names-at.is in
      let there = stepped-child w.rows c.args.cred.now 1 c.loop-at.at c.loop-at.dir c.index-names-at.result
      c.in_ok-dir.dir (c.in_ok-dir.ensures.step w here) in
      way_further w.rows c.args.names.now c.args.number c.loop-at.at c.loop-at.dir c.index-names-at.result
      (drop (c.loop-at.at + 1) c.args.names.now) c.in_ok-dir.dir
      (subst (IsRest w.rows c.args.names.now c.args.number c.loop-at.at c.loop-at.dir) left
      (c.loop-at.invariant.rest w v)) (search rules) there;
  leads = λ w v.
      let here = still c.loop-at.invariant.state v in
      let left = names_left c.args.names.now c.loop-at.at c.index-names-at.result c.loop-at-test.true
      c.index-names-at.is in
      let was = c.loop-at.invariant.leads w v in (
        was.0,
        sym (walked_on w.rows c.args.cred.now 1 c.loop-at.at c.loop-at.dir c.index-names-at.result
            (drop (c.loop-at.at + 1) c.args.names.now) _ (c.in_ok-dir.ensures.step w here))
            ∙ sym (ap (walked w.rows c.args.cred.now 1 c.loop-at.at c.loop-at.dir) left) ∙ was.1,
      );
  used =
      let t = c.requires.world in
      let here = still c.loop-at.invariant.state t.1 in
      let is = stepped-child t.0.rows c.args.cred.now 1 c.loop-at.at c.loop-at.dir c.index-names-at.result
      c.in_ok-dir.dir (c.in_ok-dir.ensures.step t.0 here) in
      child-stored (g.F.FileStore.state c.step.new.store).content t.0
      (still c.step.ensures.state here).shows c.loop-at.dir c.index-names-at.result c.in_ok-dir.dir is;
  state = c.step.ensures.state ∙ c.loop-at.invariant.state;
}

pub returns-then-dir-number-clause-beneath : goal.returns-then-dir-number-clause-beneath
returns-then-dir-number-clause-beneath g c = grind (arith, common_steps)

pub returns-then-dir-number-2-clause-beneath : goal.returns-then-dir-number-2-clause-beneath
returns-then-dir-number-2-clause-beneath g c = grind (arith, common_steps)

pub returns-clause-apart : goal.returns-clause-apart
returns-clause-apart g c = grind (arith, common_steps)
