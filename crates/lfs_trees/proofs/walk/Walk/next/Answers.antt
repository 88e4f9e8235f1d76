use Rattle.std.proofs.Common.{◌≡◌, ◌<◌, ℕ, Bor, true, length, Option, None, Some, refl, sym, ap, subst, ◌∙◌, arith}
use Rattle.std.specs.Prelude.{IfSome, is_some}
use Rattle.std.specs.Option.{option_copied}
use Rattle.std.proofs.lemmas.Bool.{ltb-true}
use Rattle.lfs_trees.proofs.Numbers.{no_more}
use Rattle.lfs_trees.proofs.walk.Walk.next.Goals as goal

-- what holds where there is a value holds of what is copied of it
if_copied : (P : Type 0) (o : Option (Bor ℕ)) → (is_some o ≡ true → P) → IfSome (option_copied o) (λ _. P)
if_copied P None h = tt
if_copied P (Some x) h = h refl

pub returns-clause-few : goal.returns-clause-few
returns-clause-few c =
    let walk = c.args.self.now in
    subst (λ o. IfSome o (λ _. walk.done < length walk.marks.items)) (sym c.copied.ensures)
    (if_copied _ c.get.result (λ some.
    let inside : walk.done < length c.deref.result.now =
    ltb-true walk.done (length c.deref.result.now) (sym c.get.ensures.lookup.0 ∙ some) in
    let long = ap length c.deref.ensures.value in
    let few = no_more walk.order.items walk.marks.items walk.marked in
    omega arith))
