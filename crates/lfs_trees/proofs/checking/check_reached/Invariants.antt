use Rattle.std.proofs.Common.{◌≡◌, ◌<◌, ℕ, true}
use Rattle.std.specs.Prelude.{IsSome}
use Rattle.std.specs.FinMap as map
use Rattle.lfs_trees.specs.Marks.{is_among}
use Rattle.lfs_trees.proofs.checking.check_reached.Given as goal

-- each number in use below this one was reached
abbrev pub invariant-loop-number : goal.invariant-loop-number
invariant-loop-number g l =
    (n : ℕ) → IsSome (map.get (g.F.FileStore.state l.store).content n) → n < l.number → is_among l.walk.order.items n
    ≡ true
