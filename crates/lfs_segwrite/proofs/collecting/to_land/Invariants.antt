use Rattle.std.proofs.Common.{◌≡◌, map}
use Rattle.lfs_segwrite.specs.Collecting.{entry_of, in_turns}
use Rattle.lfs_segwrite.proofs.collecting.to_land.Given as goal

abbrev pub invariant-loop-turn : goal.invariant-loop-turn
invariant-loop-turn l = l.list.items ≡ map entry_of (in_turns l.turn l.keys)
