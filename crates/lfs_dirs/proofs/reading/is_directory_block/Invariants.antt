use Rattle.std.proofs.Common.{length}
use Rattle.lfs_dirs.specs.Directory.{IsDirectoryBlock}
use Rattle.lfs_dirs.specs.Reading.{entries_of}
use Rattle.lfs_dirs.proofs.Testing.{Lists}
use Rattle.lfs_dirs.proofs.reading.is_directory_block.Given as goal

abbrev pub invariant-loop-name : goal.invariant-loop-name
invariant-loop-name l = record {
  behind : IsDirectoryBlock l.block (entries_of l.block) → Lists l.rest;
  whole : Lists l.rest → IsDirectoryBlock l.block (entries_of l.block);
}

abbrev pub decreases-loop-name : goal.decreases-loop-name
decreases-loop-name l = length l.rest
