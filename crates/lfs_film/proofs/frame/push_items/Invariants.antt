use Rattle.std.proofs.Common.{◌≡◌, ◌++◌, map, take}
use Rattle.std.specs.List.{flat_map}
use Rattle.lfs_film.specs.Frames.{item}
use Rattle.lfs_film.proofs.frame.push_items.Given as goal

abbrev pub invariant-loop-text : goal.invariant-loop-text
invariant-loop-text l = l.out.items ≡ l.fn.out.items ++ flat_map item (map (λ x. x.now) (take l.text-index l.texts))
