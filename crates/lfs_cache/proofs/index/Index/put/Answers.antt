use Rattle.std.proofs.Common.{◌-◌, ◌*◌, ◌<◌, length, sym, ap, subst, ◌∙◌, arith}
use Rattle.lfs_cache.specs.Keys.{start_of}
use Rattle.lfs_cache.specs.Index.{IsFree}
use Rattle.lfs_cache.proofs.Named.{index_put}
use Rattle.lfs_cache.proofs.index.Index.put.Goals as goal

pub invariant_of-self-else-self-len : goal.invariant_of-self-else-self-len
invariant_of-self-else-self-len c =
    let keys = c.self.inside.keys.items in let ps = c.self.inside.places.items in let taken = c.self.inside.taken in
    let below : c.args.frame < length keys = subst (λ ks. c.args.frame < length ks) (sym c.self.view_is) c.requires in
    index_put keys ps taken c.args.frame c.start.result c.free_place-place.result c.args.key below
    (λ e. c.if-self-len.false (let long = c.self.inside.keys.ok.0 in omega (arith, c.len.ensures)))
    (c.start.ensures.start ∙ ap (λ n. start_of c.args.key (4 * n)) (c.len-else-self-len.ensures
    ∙ c.self.inside.keys.ok.0)) c.free_place-place.ensures.after
    (subst (λ qs. IsFree qs c.start.result (c.free_place-place.result - c.start.result))
    c.deref-else-self-len.ensures.value c.free_place-place.ensures.free) c.self.invariant
