use Rattle.std.proofs.Common.{◌≡◌, ◌<◌, true, length, sym, ap, ◌∙◌, arith}
use Rattle.lfs_cache.specs.Keys.{same_key}
use Rattle.lfs_cache.specs.Frames.{names_without}
use Rattle.lfs_cache.proofs.KeyLists.{names_dropped, names_absent, name_is, key_in}
use Rattle.lfs_cache.proofs.names.drop_name.Goals as goal

pub returns-then-same-clause-items : goal.returns-then-same-clause-items
returns-then-same-clause-items c =
    let ns = c.loop-place.names in let was = c.args.names.now in let i = c.loop-place.place in let k = c.args.key in
    let inside : i < length ns.items = let long = ns.ok.0 in let test = c.loop-place-test.true in let whole =
    ap (λ v. v.len) c.loop-place.invariant.same in omega (arith, c.len-place-end.ensures) in
    let here : same_key (key_in ns.items i) k
    ≡ true = ap (λ n. same_key n k) (sym (name_is ns.items i c.index.result.now inside c.index.ensures))
    ∙ (sym c.same.ensures ∙ c.if-same.true) in
    c.remove-dropped.ensures.items ∙ (names_dropped ns.items i k inside c.loop-place.invariant.others here
    ∙ ap (λ v. names_without k v.items) c.loop-place.invariant.same)

pub returns-clause-items : goal.returns-clause-items
returns-clause-items c =
    let ns = c.loop-place.names in let k = c.args.key in
    sym (names_absent ns.items k (λ p low. c.loop-place.invariant.others p
    (let long = ns.ok.0 in let test = c.loop-place-test.false in let whole =
    ap (λ v. v.len) c.loop-place.invariant.same in omega (arith, c.len-place-end.ensures))))
    ∙ ap (λ v. names_without k v.items) c.loop-place.invariant.same
