use Rattle.std.proofs.Common.{◌≡◌, List, ap, map, refl, ◌∙◌, rules}
use Rattle.serde_json.specs.Data.{Data, array}
use Rattle.serde_json.specs.View.{items_of, view}
use Rattle.serde_json.specs.declared.value.Value.{Array, the_lemmas}
use Rattle.lfs_auditing.proofs.JsonLemmas.{rules_all, rules_more}
use Rattle.lfs_auditing.proofs.json.rules_value.Goals as goal

pub loop-place-preserved : goal.loop-place-preserved
loop-place-preserved c =
    rules_more _ _ c.args.rules.now c.args.numbers.now c.loop-place.place _ _ c.requires
    c.loop-place-test.true refl c.loop-place.invariant c.in_ok-push_rule.ensures

pub returns : goal.returns
returns c =
    let shown : view (Array c.loop-place.values) ≡ array (items_of (map view c.loop-place.values.items)) =
    search (rules, the_lemmas) in
    shown
    ∙ ap (λ (xs : List Data). array (items_of xs))
    (rules_all _ c.args.rules.now c.args.numbers.now c.loop-place.place c.loop-place-test.false c.loop-place.invariant)
