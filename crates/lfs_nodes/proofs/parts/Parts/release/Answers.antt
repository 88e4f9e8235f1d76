use Rattle.std.proofs.Common.{◌≡◌, ◌≢◌, ℕ, ◌+◌, ◌<◌, Option, None, Some, true, false, refl, sym, ap, ◌∙◌, arith}
use Rattle.lfs_nodes.specs.Holds.{is_held, is_known_held}
use Rattle.lfs_nodes.specs.Maps.{node_at, nodes_in}
use Rattle.lfs_nodes.specs.Nodes.{known}
use Rattle.lfs_nodes.proofs.HoldsLemmas.{step_held, step_left, none_stays, measured}
use Rattle.lfs_nodes.proofs.parts.Parts.release.Goals as goal

pub loop-above-init : goal.loop-above-init
loop-above-init c =
    let parts = c.args.self.now in
    let step = c.drop_unheld-above.ensures in
    let after = c.drop_unheld-above.new.self in
    record {
      whole = step.whole;
      dropped = step.dropped;
      held = step_held (known parts) (known after)
          (node_at parts.table c.args.id) c.args.id refl step.dropped step.held step.others;
      others = step_left (known parts) (known after)
          (node_at parts.table c.args.id) c.args.id refl step.dropped step.held step.others;
      next = step.next;
    }

pub loop-above-smaller : goal.loop-above-smaller
loop-above-smaller c = measured _ _ c.loop-above.above _ c.in-Some.parent c.in-Some.is
    c.drop_unheld-above-in-Some.ensures.fewer c.drop_unheld-above-in-Some.ensures.no_more

pub loop-above-preserved : goal.loop-above-preserved
loop-above-preserved c =
    let before = c.loop-above.self in
    let inv = c.loop-above.invariant in
    let step = c.drop_unheld-above-in-Some.ensures in
    let after = c.drop_unheld-above-in-Some.new.self in
    let id = c.in-Some.parent in
    let held = step_held (known before) (known after)
    (node_at before.table id) id refl step.dropped step.held step.others in
    let left = step_left (known before) (known after)
    (node_at before.table id) id refl step.dropped step.held step.others in
    record {
      whole = step.whole;
      dropped = λ h. none_stays (known before c.args.id) (known after c.args.id) (left c.args.id) (inv.dropped h);
      held = λ q h. held q (ap is_known_held (inv.held q h) ∙ h) ∙ inv.held q h;
      others = λ q n e. inv.others q n (left q n e);
      next = step.next ∙ inv.next;
    }
