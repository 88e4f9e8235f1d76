use Rattle.std.proofs.Common.{◌≡◌, drop}
use Rattle.std.specs.List.{list_any}
use Rattle.lfs_segwrite.specs.Applying.{unlocks}
use Rattle.lfs_parts.specs.Files.{content_of}
use Rattle.lfs_segwrite.proofs.applying.unlock.Given as goal

abbrev pub invariant-loop-change : goal.invariant-loop-change
invariant-loop-change l =
    list_any (unlocks (content_of l.parts)) (drop l.change-index l.changes)
    ≡ list_any (unlocks (content_of l.parts)) l.changes
