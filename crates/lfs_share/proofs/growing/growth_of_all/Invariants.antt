use Rattle.std.proofs.Common.{◌≡◌, ◌+◌, drop}
use Rattle.lfs_logstore.specs.States.{state_of}
use Rattle.lfs_share.specs.Growing.{growth_of_all}
use Rattle.lfs_share.proofs.growing.growth_of_all.Given as goal

abbrev pub invariant-loop-change : goal.invariant-loop-change
invariant-loop-change l =
    l.growth + growth_of_all (state_of l.store).content (drop l.change-index l.changes)
    ≡ growth_of_all (state_of l.store).content l.changes
