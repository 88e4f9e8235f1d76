use Rattle.std.proofs.Common.{◌≡◌}
use Rattle.lfs_recovery.specs.Course.{course, entered, partials}
use Rattle.lfs_recovery.proofs.partials.partial_segments.Given as goal

-- those that begin before the address, where the reader is to come
abbrev pub invariant-loop-address : goal.invariant-loop-address
invariant-loop-address l = record {
  found : l.list.items ≡ partials l.memory l.address;
  reached : entered l.address l.reader ≡ course l.memory l.address;
}
