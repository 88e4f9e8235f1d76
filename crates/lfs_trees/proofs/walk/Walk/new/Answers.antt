use Rattle.lfs_trees.proofs.Numbers.{unmarked}
use Rattle.lfs_trees.proofs.walk.Walk.new.Goals as goal

pub invariant_of-result-clause-marked : goal.invariant_of-result-clause-marked
invariant_of-result-clause-marked c =
    unmarked c.args.numbers _ _ c.in_ok-with_capacity.ensures.items
    (c.in_ok-vec.ensures.items_if_clones_equal (λ y e. e))
