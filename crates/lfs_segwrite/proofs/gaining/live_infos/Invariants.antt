use Rattle.std.proofs.Common.{◌≡◌, take}
use Rattle.std.specs.List.{filter}
use Rattle.lfs_parts.specs.Keys.{log_state}
use Rattle.lfs_segwrite.specs.Gaining.{names_block}
use Rattle.lfs_segwrite.proofs.gaining.live_infos.Given as goal

-- those so far that name a block
abbrev pub invariant-loop-info : goal.invariant-loop-info
invariant-loop-info l = l.live ≡ filter (names_block (log_state l.parts)) (take l.info-index l.info-items)
