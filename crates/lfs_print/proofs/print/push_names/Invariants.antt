use Rattle.std.proofs.Common.{◌≡◌, ◌++◌, map, take}
use Rattle.lfs_words.specs.Wording.{spaced}
use Rattle.lfs_words.specs.NameText.{name_text}
use Rattle.lfs_print.proofs.print.push_names.Given as goal

abbrev pub invariant-loop-name : goal.invariant-loop-name
invariant-loop-name l = l.out.items ≡ l.fn.out.items ++ spaced (map name_text (take l.name-index l.names))
