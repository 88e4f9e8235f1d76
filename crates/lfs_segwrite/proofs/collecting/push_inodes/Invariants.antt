use Rattle.std.proofs.Common.{◌≡◌, ◌++◌, replicate}
use Rattle.lfs_parts.specs.Opening.{inodes_entry}
use Rattle.lfs_segwrite.proofs.collecting.push_inodes.Given as goal

-- so many entries so far
abbrev pub invariant-loop : goal.invariant-loop
invariant-loop l = l.list.items ≡ l.initial.list.items ++ replicate l.counter inodes_entry
