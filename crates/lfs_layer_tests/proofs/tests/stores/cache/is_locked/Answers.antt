use Rattle.std.proofs.Common.{◌≡◌, ◌<◌, true, List, length, get_or, sym, ◌∙◌, subst}
use Rattle.lfs_cache.specs.declared.key.Key.{Key}
use Rattle.lfs_cache.specs.Keys.{same_key}
use Rattle.lfs_cache.specs.Contents.{keys_of}
use Rattle.lfs_cache.proofs.CallerLemmas.{listed_has_block}
use Rattle.lfs_layer_tests.proofs.tests.stores.cache.is_locked.Goals as goal

pub returns-then-same : goal.returns-then-same
returns-then-same c =
    let es = c.args.cache.now.locked in let i = c.loop-held.held-index in let k = c.args.key in let ns =
    c.locked-held-items.result.now in
    let d : Key = record { ino = 0; version = 0; lbn = record { 0 = 0 } } in
    let inside : i < length (keys_of es) = subst
    (λ (ms : List Key). i < length ms) c.locked-held-items.ensures.keys c.loop-held-test.true in
    let same : same_key (get_or (keys_of es) i d) k
    ≡ true = subst (λ (ms : List Key). same_key (get_or ms i d) k ≡ true) c.locked-held-items.ensures.keys
    (sym c.same.ensures ∙ c.if-same.true) in
    λ _. listed_has_block k es i d inside same
