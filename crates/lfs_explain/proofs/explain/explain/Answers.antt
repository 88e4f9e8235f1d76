use Rattle.std.proofs.Common.{List, ◌++◌, take, sym, ap, subst, ◌∙◌}
use Rattle.lfs_calls.proofs.CallLemmas.{still}
use Rattle.lfs_model.specs.Rules.{Check, first_failing, rule_table}
use Rattle.lfs_explain.specs.Asked.{asked}
use Rattle.lfs_explain.specs.Tables.{known_path, table_by}
use Rattle.lfs_explain.specs.Trails.{IsTrail}
use Rattle.lfs_explain.proofs.Askings.{failing_asked}
use Rattle.lfs_explain.proofs.ExplainLemmas.{told}
use Rattle.lfs_explain.proofs.explain.explain.Goals as goal

pub trail-requires-2-clause-world : goal.trail-requires-2-clause-world
trail-requires-2-clause-world g c = let t = c.requires in (t.0, still c.trail.ensures.state t.1)

pub returns-clause-checks : goal.returns-clause-checks
returns-clause-checks g c w v at =
    let count = c.asked_count-count.result in
    c.truncate.ensures.items
    ∙ ap (λ (l : List Check). take count l) (sym c.deref.ensures.value)
    ∙ c.asked_count-count.ensures
    ∙ ap asked c.deref.ensures.value
    ∙ c.in_ok-push_table.ensures
    ∙ ap (λ (l : List Check). asked (l ++ table_by c.args.level c.args.cred.now c.args.request.now
    (known_path c.in_ok-first.first) (known_path c.in_ok-second.second))) c.new-checks.ensures.items
    ∙ told w v.tree c.args.level at c.args.cred.now c.in_ok-first.first c.in_ok-second.second c.args.request.now
    (subst (λ ns. IsTrail w.rows ns c.in_ok-first.first) c.first_of.ensures.names (c.in_ok-first.ensures.trail w v))
    (subst (λ ns. IsTrail w.rows ns c.in_ok-second.second) c.second_of.ensures.names
    (c.in_ok-second.ensures.trail w (still c.trail.ensures.state v)))

pub returns-clause-verdict : goal.returns-clause-verdict
returns-clause-verdict g c w v at =
    ap first_failing (returns-clause-checks g c w v at)
    ∙ failing_asked (rule_table w c.args.cred.now c.args.request.now)
