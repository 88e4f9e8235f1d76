use Rattle.std.proofs.Common.{◌+◌, ◌++◌, List, [], ◌∷◌, drop, sym, ap, ◌∙◌, append_assoc}
use Rattle.lfs_calls.proofs.CallLemmas.{still}
use Rattle.lfs_calls.proofs.StepLemmas.{child-stored}
use Rattle.lfs_explain.specs.Trails.{rows_along}
use Rattle.lfs_explain.specs.declared.trail.ShownRow.{ShownRow}
use Rattle.lfs_explain.proofs.StepsTold.{left_from}
use Rattle.lfs_explain.proofs.TrailLemmas.{trail_on}
use Rattle.lfs_explain.proofs.looking.rows_along.Goals as goal

pub child_of-requires-clause-world : goal.child_of-requires-clause-world
child_of-requires-clause-world g c = let t = c.requires.world in (t.0, still c.loop-name.invariant.state t.1)

pub look-requires : goal.look-requires
look-requires g c = c.loop-name.invariant.used

pub loop-name-preserved : goal.loop-name-preserved
loop-name-preserved g c = record {
  rows_along = λ w v.
      let here = still c.loop-name.invariant.state v in
      let rest = drop (c.loop-name.name-index + 1) c.args.names.now in
      c.loop-name.invariant.rows_along w v
      ∙ ap (λ ns. c.loop-name.rows.items ++ rows_along w.rows c.loop-name.at ns)
      (left_from c.args.names.now c.loop-name.name-index c.name-item.result c.loop-name-test.true c.name-item.is)
      ∙ ap (λ (l : List ShownRow). c.loop-name.rows.items ++ l)
      (trail_on w.rows c.loop-name.at c.name-item.result rest c.in-Some.next (c.in-Some.ensures.child w here)
      ∙ ap (λ (s : ShownRow). s ∷ rows_along w.rows c.in-Some.next rest) (sym (c.look.ensures w here)))
      ∙ sym (append_assoc c.loop-name.rows.items (c.look.result ∷ []) (rows_along w.rows c.in-Some.next rest))
      ∙ ap (λ (l : List ShownRow). l ++ rows_along w.rows c.in-Some.next rest) (sym c.in_ok-push.ensures.items);
  used =
      let t = c.requires.world in
      let here = still c.loop-name.invariant.state t.1 in
      child-stored (g.F.FileStore.state c.child_of.new.store).content t.0
      (still c.child_of.ensures.state here).shows c.loop-name.at c.name-item.result c.in-Some.next
      (c.in-Some.ensures.child t.0 here);
  state = c.child_of.ensures.state ∙ c.loop-name.invariant.state;
}
