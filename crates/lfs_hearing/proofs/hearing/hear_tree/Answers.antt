use Rattle.std.proofs.Common.{◌≡◌, ℕ, List, IfOk, subst, sym, ap, ◌∙◌}
use Rattle.lfs_hearing.specs.declared.look.Look.TheVariants.{Tree}
use Rattle.lfs_hearing.specs.Hearing.{look_heard, path_said}
use Rattle.lfs_hearing.specs.declared.hearing.Heard.{Heard}
use Rattle.lfs_hearing.proofs.HearingLemmas.{heard_root, heard_tree, heard_upkeep, rest_behind}
use Rattle.lfs_hearing.proofs.hearing.hear_tree.Goals as goal

pub returns-then-starts_with : goal.returns-then-starts_with
returns-then-starts_with c =
    subst (λ (said : Heard). IfOk c.hear_look.result (λ heard. heard ≡ said))
    (ap (λ (l : List ℕ). look_heard Tree (path_said l)) (rest_behind c.args.line.now 6)
    ∙ heard_tree c.args.line.now (sym c.starts_with.ensures.value ∙ c.if-starts_with.true)) c.hear_look.ensures

pub returns-then-asks_tree : goal.returns-then-asks_tree
returns-then-asks_tree c =
    subst (λ (said : Heard). IfOk c.hear_look-then-asks_tree.result (λ heard. heard ≡ said))
    (heard_root c.args.line.now (sym c.starts_with.ensures.value ∙ c.if-starts_with.false)
    (sym c.asks_tree.ensures ∙ c.if-asks_tree.true)) c.hear_look-then-asks_tree.ensures

pub returns : goal.returns
returns c =
    subst (λ (said : Heard). IfOk c.hear_upkeep.result (λ heard. heard ≡ said))
    (heard_upkeep c.args.line.now (sym c.starts_with.ensures.value ∙ c.if-starts_with.false)
    (sym c.asks_tree.ensures ∙ c.if-asks_tree.false)) c.hear_upkeep.ensures
