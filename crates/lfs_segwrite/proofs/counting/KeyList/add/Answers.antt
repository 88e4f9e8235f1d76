use Rattle.std.proofs.Common.{[], ◌∷◌, subst, sym}
use Rattle.std.specs.List.{Contains}
use Rattle.std.proofs.lemmas.Bool.Decides.{not_from_Decides}
use Rattle.std.proofs.lemmas.List.Elements.{Decides-contains, contains_decides}
use Rattle.lfs_cache.specs.Keys.{same_key}
use Rattle.lfs_segwrite.specs.Counting.{AddsKeys}
use Rattle.lfs_segwrite.proofs.CountingLemmas.{adds_new, same_decides}
use Rattle.lfs_segwrite.proofs.counting.KeyList.add.Goals as goal

pub returns-then-not-contains : goal.returns-then-not-contains
returns-then-not-contains c =
    let there = contains_decides same_key same_decides c.keys.result.now c.args.key c.contains.result
    c.contains.ensures.cases in
    let none = not_from_Decides c.contains.result
    (Decides-contains c.keys.result.now c.args.key c.contains.result there) c.if-not-contains.true in
    subst (AddsKeys (c.args.key ∷ []) c.args.self.now) (sym c.push.ensures)
    (adds_new c.args.key c.args.self.now (λ has. none
    (subst (λ keys. Contains keys c.args.key) (sym c.keys.ensures.keys) has)))
