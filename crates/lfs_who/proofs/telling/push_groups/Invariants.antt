use Rattle.std.proofs.Common.{◌≡◌, ◌++◌, drop}
use Rattle.lfs_who.specs.WhoText.{groups_text}
use Rattle.lfs_who.proofs.telling.push_groups.Given as goal

abbrev pub invariant-loop-group : goal.invariant-loop-group
invariant-loop-group l =
    l.out.items ++ groups_text l.word (drop l.group-index l.groups)
    ≡ l.fn.out.items ++ groups_text l.word l.groups
