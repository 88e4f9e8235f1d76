use Rattle.std.proofs.Common.{◌≡◌, ◌≤◌, ◌-◌, Some, take, drop, length}
use Rattle.lfs_segments.specs.Log.{expected_at, first_of}
use Rattle.lfs_log.specs.Infos.{infos_from}
use Rattle.lfs_log.proofs.infos.scan.Given as goal

-- the infos of the addresses so far, and the entries that the log expects next
abbrev pub invariant-loop-address : goal.invariant-loop-address
invariant-loop-address l = record {
  at_most : l.count ≤ 40;
  held : length l.entries ≡ 40;
  so_far : l.infos ≡ infos_from l.segments (first_of l.segment) (l.address - first_of l.segment);
  pending : expected_at l.segments l.segment l.address ≡ Some (drop l.next (take l.count l.entries));
}
