use Rattle.std.proofs.Common.{◌≡◌, refl, ap, ◌∙◌, subst, arith}
use Rattle.lfs_bmap.specs.Counting.{total}
use Rattle.lfs_segwrite.specs.Gaining.{blocks_by_eights, eight_blocks, eights, greatest, widest_eight}
use Rattle.lfs_segwrite.specs.Marking.{blocks_to_mark}
use Rattle.lfs_segwrite.proofs.GainLemmas.{greatest_more, total_more}
use Rattle.lfs_segwrite.proofs.gaining.cost_by_eights.Goals as goal

pub loop-k-init : goal.loop-k-init
unfolding total greatest
loop-k-init c = record { blocks = refl; widest = refl; few = omega arith; narrow = omega arith }

pub loop-k-preserved : goal.loop-k-preserved
loop-k-preserved c =
    let k = c.loop-k.k in
    let infos = c.args.infos.now in
    let is : c.blocks_to_mark-blocks.result ≡ eight_blocks infos k = c.blocks_to_mark-blocks.ensures.blocks
    ∙ ap blocks_to_mark c.eight.ensures.eight in
    let few = c.blocks_to_mark-blocks.ensures.few in
    let before = c.loop-k.invariant in
    let sum = total_more (eight_blocks infos) k in
    let most = greatest_more (eight_blocks infos) k in
    record {
      blocks = let one = before.blocks in omega arith;
      widest = let one = before.widest in c.max.ensures ∙ omega arith;
      few = let one = before.few in omega arith;
      narrow = let one = before.narrow in let bigger = c.max.ensures in omega arith;
    }

-- all eights
ended : (c : goal.After-loop-k) → c.loop-k.k ≡ eights c.args.infos.now
ended c = omega (arith, c.eights-k-end.ensures, c.loop-k-test.false, c.loop-k.auto.k-end)

pub returns-clause-blocks : goal.returns-clause-blocks
unfolding blocks_by_eights
returns-clause-blocks c = subst (λ n. c.loop-k.cost.blocks ≡ total (eight_blocks c.args.infos.now) n)
    (ended c) c.loop-k.invariant.blocks

pub returns-clause-widest : goal.returns-clause-widest
unfolding widest_eight
returns-clause-widest c = subst (λ n. c.loop-k.cost.widest ≡ greatest (eight_blocks c.args.infos.now) n)
    (ended c) c.loop-k.invariant.widest
