use Rattle.std.proofs.Common.{◌≡◌, ◌≤◌, ◌+◌, ◌++◌, length, take}
use Rattle.std.specs.List.{filter_map}
use Rattle.lfs_inodes.specs.Slots.{slots}
use Rattle.lfs_log.specs.Infos.{slot_info}
use Rattle.lfs_log.proofs.infos.push_inode_infos.Given as goal

-- those of the slots so far
abbrev pub invariant-loop-index : goal.invariant-loop-index
invariant-loop-index l = record {
  so_far : l.infos ≡ l.initial.infos ++ filter_map (slot_info l.address) (take l.index (slots l.block));
  few : length l.infos ≤ length l.initial.infos + l.index;
}
