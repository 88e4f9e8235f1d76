use Rattle.std.proofs.Common.{◌≡◌, ◌++◌, ◌∷◌, take}
use Rattle.std.specs.List.{flat_map}
use Rattle.std.specs.Prelude.{decimal}
use Rattle.lfs_words.proofs.caller.push_more_groups.Given as goal

abbrev pub invariant-loop-group : goal.invariant-loop-group
invariant-loop-group l = l.out.items ≡ l.fn.out.items
    ++ flat_map (λ group. 44 ∷ decimal group) (take l.group-index l.groups)
