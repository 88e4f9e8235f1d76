use Rattle.std.proofs.lemmas.Grind.{common_steps}
use Rattle.std.proofs.Common.{◌≡◌, ◌*◌, length, Some, None, sym, ap, subst, ◌∙◌, arith}
use Rattle.lfs_cache.specs.Keys.{start_of}
use Rattle.lfs_cache.specs.Index.{key_at, frame_at, IsReached}
use Rattle.lfs_cache.proofs.Places.{not_found, shown_at}
use Rattle.lfs_cache.proofs.index.Index.find.Goals as goal

pub index-requires-in-Some : goal.index-requires-in-Some
index-requires-in-Some c =
    let ps = c.self.inside.places in let long = ps.ok.0 in let keys = c.self.inside.keys.ok.0 in
    let is : frame_at ps.items c.loop-place.place
    ≡ Some c.in-Some.frame = sym (shown_at ps.items c.loop-place.place c.index.result.now
    (omega arith) c.index.ensures) ∙ c.in-Some.is in
    let below = c.self.invariant.inside c.loop-place.place c.in-Some.frame is in omega arith

pub returns-in-None : goal.returns-in-None
returns-in-None c f holds =
    let ps = c.self.inside.places in let keys = c.self.inside.keys in let long = ps.ok.0 in
    let is : frame_at ps.items c.loop-place.place
    ≡ None = sym (shown_at ps.items c.loop-place.place c.index.result.now (omega arith) c.index.ensures)
    ∙ c.in-None.is in
    let from : start_of c.args.key (4 * length keys.items)
    ≡ c.start-start.result = ap (λ n. start_of c.args.key (4 * n)) (sym keys.ok.0 ∙ sym c.len.ensures)
    ∙ sym c.start-start.ensures.start in
    let held : key_at keys.items f ≡ Some c.args.key = ap (λ ks. key_at ks f) c.self.view_is ∙ holds in
    let reached : IsReached ps.items c.start-start.result f =
    subst (λ s. IsReached ps.items s f) from (c.self.invariant.found f c.args.key held) in
    not_found ps.items c.start-start.result c.loop-place.place f (λ g. key_at keys.items g
    ≡ Some c.args.key) c.loop-place.auto.place (λ p g a b e. c.loop-place.invariant p g a b e)
    (λ _. is) reached held

pub loop-place-preserved : goal.loop-place-preserved
loop-place-preserved c = grind (arith, common_steps)
