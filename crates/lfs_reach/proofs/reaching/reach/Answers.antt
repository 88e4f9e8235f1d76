use Rattle.std.proofs.Common.{◌≡◌, ◌<◌, false, true, get_or, length, set, sym, subst, ◌∙◌, arith}
use Rattle.std.proofs.lemmas.List.{get_or_default}
use Rattle.lfs_reach.specs.Walks.{Adds, IsWalk}
use Rattle.lfs_reach.proofs.WalkLemmas.{adds_one, walk_push}
use Rattle.lfs_reach.proofs.reaching.reach.Goals as goal

pub returns-in_ok-push-clause-walk : goal.returns-in_ok-push-clause-walk
returns-in_ok-push-clause-walk c =
    let marks = c.args.marks.now.items in
    let order = c.args.order.now.items in
    let n = c.args.number in
    let long = c.requires.walk.long in
    let below = c.requires.below in
    let inside : n < length marks = omega arith in
    let index : c.index.result.now ≡ get_or marks n false = c.index.ensures ∙ get_or_default marks n c.index.result.now false inside in
    subst (IsWalk (set marks n true)) (sym c.in_ok-push.ensures.items)
    (walk_push marks order n c.requires.walk below (sym index ∙ c.if-not-index.true))

pub returns-in_ok-push-clause-added : goal.returns-in_ok-push-clause-added
returns-in_ok-push-clause-added c =
    subst (Adds (λ n. n ≡ c.args.number) c.args.order.now.items) (sym c.in_ok-push.ensures.items)
    (adds_one c.args.order.now.items c.args.number)
