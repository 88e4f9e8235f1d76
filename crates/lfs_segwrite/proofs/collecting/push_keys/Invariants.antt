use Rattle.std.proofs.Common.{◌≡◌, ◌++◌, map, take}
use Rattle.std.specs.List.{filter}
use Rattle.lfs_segwrite.specs.Collecting.{entry_of, is_of}
use Rattle.lfs_segwrite.proofs.collecting.push_keys.Given as goal

-- the entries of the keys so far
abbrev pub invariant-loop-key : goal.invariant-loop-key
invariant-loop-key l = l.list.items ≡ l.initial.list.items
    ++ map entry_of (filter (is_of l.turn) (take l.key-index l.keys))
