use Rattle.std.proofs.Common.{ap, ◌++◌, ◌∷◌, [], ◌∙◌, List, ℕ}
use Rattle.std.proofs.lemmas.List.{replicate_more}
use Rattle.lfs_types.specs.Blocks.{zero_block}
use Rattle.lfs_file_disk.proofs.opening.blank.Goals as goal

pub loop-address-preserved : goal.loop-address-preserved
unfolding zero_block
loop-address-preserved g c =
    c.in-Ok.ensures.items
    ∙ (ap (λ (blocks : List (List ℕ)). blocks ++ zero_block ∷ []) c.loop-address.invariant
    ∙ replicate_more c.loop-address.address zero_block)
