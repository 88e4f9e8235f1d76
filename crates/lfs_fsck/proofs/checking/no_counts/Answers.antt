use Rattle.std.proofs.Common.{◌≡◌, length, List, ℕ, ap, ◌∙◌}
use Rattle.std.specs.Prelude.{replicate, slice_index}
use Rattle.std.proofs.lemmas.List.{length-replicate}
use Rattle.lfs_inodes.proofs.ZeroedLemmas.{slice_index-zeros}
use Rattle.lfs_fsck.proofs.KeyLemmas.{count_begins}
use Rattle.lfs_fsck.proofs.checking.no_counts.Goals as goal

pub returns : goal.returns
returns c =
    let counts : List ℕ = c.in_ok-vec.field-0.items in
    let n : ℕ = c.segments.result in
    let is : counts ≡ replicate n 0 = c.in_ok-vec.ensures.items_if_clones_equal (λ y e. e) in
    count_begins c.args.log.now counts (ap (λ (xs : List ℕ). length xs) is ∙ length-replicate n 0
    ∙ c.segments.ensures.segments)
    (λ s. ap (λ (xs : List ℕ). slice_index xs s) is ∙ slice_index-zeros n s)
