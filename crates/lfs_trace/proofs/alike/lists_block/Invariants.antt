use Rattle.std.proofs.Common.{◌≡◌, ◌++◌, List}
use Rattle.lfs_types.specs.Stored.{bytes_of}
use Rattle.lfs_dirs.specs.Directory.{AreEntries, Entry}
use Rattle.lfs_dirs.specs.Reading.{entries_of}
use Rattle.lfs_trace.specs.Alike.{AreListed}
use Rattle.lfs_trace.specs.Checking.{plain_state}
use Rattle.lfs_trace.proofs.alike.lists_block.Given as goal

-- the entries so far are listed
abbrev pub invariant-loop-number : goal.invariant-loop-number
invariant-loop-number l = record {
  can_next : (goal.iterator-loop-number).can_next l.number-iterator;
  is_finite : (goal.iterator-loop-number).is_finite l.number-iterator;
  left : AreEntries l.number-iterator;
  listed : (done : List Entry) × (entries_of l.block ≡ done ++ l.number-iterator)
      × AreListed (bytes_of (plain_state l.fn.plain).content l.directory) done;
  state : plain_state l.plain ≡ plain_state l.fn.plain;
}
