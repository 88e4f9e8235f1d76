use Rattle.std.proofs.Common.{◌≡◌, ◌-◌}
use Rattle.lfs_segments.specs.Log.{expected, first_of, log_block}
use Rattle.lfs_segments.specs.Memory.{has_serials}
use Rattle.lfs_fsck.specs.Names.{AreNames}
use Rattle.lfs_fsck.proofs.names.name_segment.Given as goal

-- the names so far, and what the log expects at the address
abbrev pub invariant-loop-address : goal.invariant-loop-address
invariant-loop-address l = record {
  so_far : AreNames l.log.memory l.address l.names.items;
  read : l.reader ≡ expected (has_serials l.log.memory) (log_block l.log.memory l.segment)
      (l.address - first_of l.segment);
}
