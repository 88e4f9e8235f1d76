use Rattle.std.proofs.Common.{◌≡◌, ◌*◌, arith}
use Rattle.std.proofs.lemmas.Grind.{common_steps}
use Rattle.lfs_cache.proofs.Named.{index_none}
use Rattle.lfs_cache.proofs.index.Index.new.Goals as goal

pub invariant_of-result : goal.invariant_of-result
invariant_of-result c =
    let ks = c.in_ok-keys.keys in let ps = c.in_ok-places.places in
    let some = c.requires.some in let bounded = c.requires.bounded in let k = ks.ok.0 in let p = ps.ok.0 in
    let n : ks.len ≡ c.args.frames = c.in_ok-keys.ensures.len in let m : ps.len
    ≡ 6 * c.args.frames = c.in_ok-places.ensures.len in
    index_none ks.items ps.items (omega arith) (omega arith) (omega arith)
    (λ f. grind (arith, common_steps, c.in_ok-keys.ensures.items_if_clones_equal))
    (λ p. grind (arith, common_steps, c.in_ok-places.ensures.items_if_clones_equal))
