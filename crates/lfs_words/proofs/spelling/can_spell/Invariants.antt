use Rattle.std.proofs.Common.{◌≡◌, true, None, take}
use Rattle.lfs_types.specs.Paths.{names_fault}
use Rattle.lfs_words.specs.PathText.{can_spell}
use Rattle.lfs_words.proofs.spelling.can_spell.Given as goal

abbrev pub invariant-loop-name : goal.invariant-loop-name
invariant-loop-name l =
    (can_spell (take l.name-index l.names) ≡ true) × (names_fault 1 (take l.name-index l.names) ≡ None)
