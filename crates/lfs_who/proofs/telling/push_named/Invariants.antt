use Rattle.std.proofs.Common.{◌≡◌, ◌++◌, drop}
use Rattle.std.specs.List.{flat_map}
use Rattle.lfs_who.specs.WhoText.{named_text}
use Rattle.lfs_who.proofs.telling.push_named.Given as goal

abbrev pub invariant-loop-one : goal.invariant-loop-one
invariant-loop-one l =
    l.out.items ++ flat_map (named_text l.word) (drop l.one-index l.named)
    ≡ l.fn.out.items ++ flat_map (named_text l.word) l.named
