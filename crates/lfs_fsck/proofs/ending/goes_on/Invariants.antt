use Rattle.std.proofs.Common.{◌≡◌, ◌≤◌, ◌-◌}
use Rattle.lfs_segments.specs.Log.{expected, first_of, log_block}
use Rattle.lfs_segments.specs.Memory.{has_serials}
use Rattle.lfs_fsck.proofs.ending.goes_on.Given as goal

-- what the log expects at the address
abbrev pub invariant-loop-address : goal.invariant-loop-address
invariant-loop-address l = record {
  from : first_of l.log.memory.active ≤ l.address;
  read : l.reader ≡ expected (has_serials l.log.memory) (log_block l.log.memory l.log.memory.active)
      (l.address - first_of l.log.memory.active);
}
