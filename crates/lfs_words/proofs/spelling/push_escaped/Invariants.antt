use Rattle.std.proofs.Common.{◌≡◌, ◌++◌, ◌∷◌, map, take}
use Rattle.lfs_types.specs.Paths.{slashed}
use Rattle.lfs_words.specs.NameText.{name_text}
use Rattle.lfs_words.proofs.spelling.push_escaped.Given as goal

abbrev pub invariant-loop-name : goal.invariant-loop-name
invariant-loop-name l = l.out.items ≡ l.fn.out.items ++ 32 ∷ 37 ∷ slashed (map name_text (take l.name-index l.names))
