use Rattle.std.proofs.Common.{◌≡◌, ◌++◌, take}
use Rattle.std.specs.List.{flat_map}
use Rattle.lfs_image.proofs.saving.push_blocks.Given as goal

abbrev pub invariant-loop-address : goal.invariant-loop-address
invariant-loop-address l = l.out.items ≡ l.initial.out.items
    ++ flat_map (λ block. block) (take l.address l.log.memory.blocks)
