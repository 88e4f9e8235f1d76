use Rattle.std.proofs.Common.{◌≡◌, ◌++◌, map}
use Rattle.lfs_dirs.specs.Directory.{Entry, AreEntries}
use Rattle.lfs_dirs.specs.Reading.{entries_of}
use Rattle.lfs_calls.proofs.directory.push_names.Given as goal

abbrev pub invariant-loop-bytes : goal.invariant-loop-bytes
invariant-loop-bytes l = record {
  can_next : (goal.iterator-loop-bytes).can_next l.bytes-iterator;
  is_finite : (goal.iterator-loop-bytes).is_finite l.bytes-iterator;
  left : AreEntries l.bytes-iterator;
  pushed : l.names.items ++ map (λ (e : Entry). e.1) l.bytes-iterator ≡ l.fn.names.items
      ++ map (λ (e : Entry). e.1) (entries_of l.block);
}
