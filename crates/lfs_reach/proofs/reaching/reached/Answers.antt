use Rattle.std.proofs.Common.{◌≡◌, ◌<◌, ◌≤◌, ℕ, List, Bool, false, get_or, length, replicate, sym, subst, ◌∙◌, arith}
use Rattle.std.proofs.lemmas.Grind.{common_steps}
use Rattle.std.proofs.lemmas.List.{get_or_default}
use Rattle.lfs_reach.specs.Walks.{Adds, IsWalk}
use Rattle.lfs_reach.proofs.ReachLemmas.{reach_all, reaching_first, reaching_more}
use Rattle.lfs_reach.proofs.WalkLemmas.{walk_below, walk_first}
use Rattle.lfs_reach.proofs.reaching.reached.Goals as goal

pub reach-requires-clause-walk : goal.reach-requires-clause-walk
reach-requires-clause-walk c =
    let marks : c.in_ok-marks.marks.items ≡ replicate 4096 false =
    c.in_ok-marks.ensures.items_if_clones_equal (λ y e. grind (arith, common_steps)) in
    subst (λ (xs : List Bool). IsWalk xs c.new-order.result.items) (sym marks)
    (subst (IsWalk (replicate 4096 false)) (sym c.new-order.ensures.items) walk_first)

pub loop-done-init : goal.loop-done-init
loop-done-init c = record {
  walk = c.in_ok-reach.ensures.walk;
  reaching = reaching_first c.args.memory.now c.args.places.now c.reach.new.order.items
      (subst (λ (xs : List ℕ). Adds (λ n. n ≡ 2) xs c.reach.new.order.items) c.new-order.ensures.items
      c.in_ok-reach.ensures.added);
}

pub bounds-places-number : goal.bounds-places-number
bounds-places-number c =
    let l = c.loop-done in
    let more : l.done < length l.order.items = omega (arith, c.len.ensures) in
    let below = walk_below l.marks.items l.order.items c.index.result.now l.invariant.walk
    (l.done, more, sym c.index.ensures) in
    let long = c.requires.long in
    omega arith

pub returns-clause-reached : goal.returns-clause-reached
returns-clause-reached c = λ n.
    let l = c.loop-done in
    let all : length l.order.items ≤ l.done = omega (arith, c.len.ensures) in (
      λ e. l.invariant.reaching.from n (l.invariant.walk.marked n e),
      λ way. l.invariant.walk.ordered n
          (reach_all c.args.memory.now c.args.places.now l.order.items l.done all l.invariant.reaching n way),
    )

pub loop-done-preserved : goal.loop-done-preserved
loop-done-preserved c =
    let l = c.loop-done in
    let order = l.order.items in
    let n = c.index.result.now in
    let more : l.done < length order = omega (arith, c.len.ensures) in
    let at : get_or order l.done 0 ≡ n = sym (c.index.ensures ∙ get_or_default order l.done n 0 more) in
    record {
      walk = c.in_ok-reach_named.ensures.walk;
      reaching = reaching_more c.args.memory.now c.args.places.now order c.reach_named.new.order.items l.done n more at
          l.invariant.reaching c.in_ok-reach_named.ensures.added;
    }
