use Rattle.std.proofs.Common.{◌≡◌}
use Rattle.lfs_recovery.specs.Course.{course, entered}
use Rattle.lfs_recovery.specs.Noted.{IsTable, records}
use Rattle.lfs_recovery.proofs.newest.newest_records.Given as goal

-- the newest before the address, where the reader is to come
abbrev pub invariant-loop-address : goal.invariant-loop-address
invariant-loop-address l = record {
  noted : IsTable l.table.items (records l.memory l.address);
  reached : entered l.address l.reader ≡ course l.memory l.address;
}
