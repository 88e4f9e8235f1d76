use Rattle.std.proofs.Common.{◌≡◌, ℕ, List, ◌+◌, ◌-◌, ◌<◌, length, set, replicate, ap, ◌∙◌, arith}
use Rattle.lfs_types.specs.Blocks.{zero_block}
use Rattle.lfs_segments.specs.Memory.{written}
use Rattle.lfs_segments.proofs.MemoryLemmas.{written_more}
use Rattle.lfs_segments.proofs.blocks.clear.Goals as goal

pub loop-place-preserved : goal.loop-place-preserved
unfolding zero_block
loop-place-preserved c =
    let old = c.args.blocks.now in
    let start = c.args.start in
    let place = c.loop-place.place in
    let n = place - start in
    let at : place ≡ start + n = omega arith in
    let more : n + 1 ≡ place + 1 - start = omega arith in
    let inside : start + n < length old.items = omega (arith, old.ok.0) in
    ap (λ (xs : List (List ℕ)). set xs place zero_block) c.loop-place.invariant
    ∙ ap (λ (k : ℕ). set (written old.items start (replicate n zero_block)) k zero_block) at
    ∙ written_more old.items start n zero_block inside
    ∙ ap (λ (k : ℕ). written old.items start (replicate k zero_block)) more
