use Rattle.std.proofs.Common.{◌≡◌, IfOk, subst, sym, ◌∙◌}
use Rattle.lfs_hearing.specs.declared.hearing.Heard.{Heard}
use Rattle.lfs_hearing.proofs.HearingLemmas.{heard_check, heard_lone, heard_save}
use Rattle.lfs_hearing.proofs.hearing.hear_upkeep.Goals as goal

pub returns-then-asks_check : goal.returns-then-asks_check
returns-then-asks_check c = heard_check c.args.line.now (sym c.asks_check.ensures ∙ c.if-asks_check.true)

pub returns-then-asks_save : goal.returns-then-asks_save
returns-then-asks_save c =
    heard_save c.args.line.now (sym c.asks_check.ensures ∙ c.if-asks_check.false)
    (sym c.asks_save.ensures ∙ c.if-asks_save.true)

pub returns : goal.returns
returns c =
    subst (λ (said : Heard). IfOk c.hear_dot.result (λ heard. heard ≡ said))
    (heard_lone c.args.line.now (sym c.asks_check.ensures ∙ c.if-asks_check.false)
    (sym c.asks_save.ensures ∙ c.if-asks_save.false)) c.hear_dot.ensures
