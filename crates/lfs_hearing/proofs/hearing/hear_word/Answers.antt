use Rattle.std.proofs.Common.{◌≡◌, ℕ, List, IfOk, subst, sym, ap, ◌∙◌}
use Rattle.lfs_hearing.specs.declared.look.Look.TheVariants.{Listing, Content}
use Rattle.lfs_hearing.specs.Hearing.{look_heard, path_said}
use Rattle.lfs_hearing.specs.declared.hearing.Heard.{Heard}
use Rattle.lfs_hearing.proofs.HearingLemmas.{heard_cat, heard_ls, heard_other, rest_behind}
use Rattle.lfs_hearing.proofs.hearing.hear_word.Goals as goal

pub returns-then-starts_with : goal.returns-then-starts_with
returns-then-starts_with c =
    subst (λ (said : Heard). IfOk c.hear_look.result (λ heard. heard ≡ said))
    (ap (λ (l : List ℕ). look_heard Listing (path_said l)) (rest_behind c.args.line.now 4)
    ∙ heard_ls c.args.line.now (sym c.starts_with.ensures.value ∙ c.if-starts_with.true)) c.hear_look.ensures

pub returns-then-starts_with-2 : goal.returns-then-starts_with-2
returns-then-starts_with-2 c =
    subst (λ (said : Heard). IfOk c.hear_look-then-starts_with-2.result (λ heard. heard ≡ said))
    (ap (λ (l : List ℕ). look_heard Content (path_said l)) (rest_behind c.args.line.now 5)
    ∙ heard_cat c.args.line.now (sym c.starts_with.ensures.value ∙ c.if-starts_with.false)
    (sym c.starts_with-2.ensures.value ∙ c.if-starts_with-2.true)) c.hear_look-then-starts_with-2.ensures

pub returns : goal.returns
returns c =
    subst (λ (said : Heard). IfOk c.hear_tree.result (λ heard. heard ≡ said))
    (heard_other c.args.line.now (sym c.starts_with.ensures.value ∙ c.if-starts_with.false)
    (sym c.starts_with-2.ensures.value ∙ c.if-starts_with-2.false)) c.hear_tree.ensures
