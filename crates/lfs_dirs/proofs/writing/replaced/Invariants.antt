use Rattle.std.proofs.Common.{◌≡◌, ◌++◌}
use Rattle.lfs_dirs.specs.Directory.{IsDirectoryBlock, renumbered, used_of}
use Rattle.lfs_dirs.specs.Reading.{entries_of}
use Rattle.lfs_dirs.proofs.writing.replaced.Given as goal

abbrev pub invariant-loop-old : goal.invariant-loop-old
invariant-loop-old l = record {
  can_next : (goal.iterator-loop-old).can_next l.old-iterator;
  is_finite : (goal.iterator-loop-old).is_finite l.old-iterator;
  directory : IsDirectoryBlock l.other (entries_of l.other);
  at_end : l.end ≡ used_of (entries_of l.other);
  kept : entries_of l.other ++ renumbered l.wanted l.number l.old-iterator
      ≡ renumbered l.wanted l.number (entries_of l.block);
}
