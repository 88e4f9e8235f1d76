use Rattle.std.proofs.Common.{◌≡◌, ◌++◌, ◌∷◌, take}
use Rattle.lfs_types.specs.Paths.{slashed}
use Rattle.lfs_words.proofs.spelling.push_spelled.Given as goal

abbrev pub invariant-loop-name : goal.invariant-loop-name
invariant-loop-name l = l.out.items ≡ l.fn.out.items ++ 32 ∷ slashed (take l.name-index l.names)
