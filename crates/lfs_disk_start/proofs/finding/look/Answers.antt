use Rattle.std.proofs.Common.{◌≡◌, ◌<◌, ◌≤◌, ℕ, length, slice_index_or, subst, sym, ⊎_elim, arith}
use Rattle.std.proofs.lemmas.Bool.{cases_lt}
use Rattle.lfs_types.specs.declared.block.TheConstants.{BLOCK_SIZE}
use Rattle.lfs_disk_start.proofs.finding.look.Goals as goal

pub loop-index-preserved : goal.loop-index-preserved
loop-index-preserved c = λ k d low. ⊎_elim
    (λ (before : k < c.loop-index.index). c.loop-index.invariant k d before)
    (λ (past : c.loop-index.index ≤ k).
    let here : k ≡ c.loop-index.index = omega arith in
    subst (λ (j : ℕ). length (slice_index_or c.args.blocks.now j d) ≡ BLOCK_SIZE) (sym here) (c.look_at.ensures d))
    (cases_lt k c.loop-index.index)
