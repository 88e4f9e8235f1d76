use Rattle.std.proofs.Common.{◌≡◌, ℕ, List, IfOk, subst, sym, ap, ◌∙◌}
use Rattle.lfs_script.specs.Plans.{line_said}
use Rattle.lfs_hearing.specs.Hearing.{asked_heard}
use Rattle.lfs_hearing.specs.declared.hearing.Heard.{Heard}
use Rattle.lfs_hearing.specs.declared.hearing.Inquiry.TheVariants.{Why, Who}
use Rattle.lfs_hearing.proofs.HearingLemmas.{heard_who, heard_why, heard_word, rest_of}
use Rattle.lfs_hearing.proofs.hearing.hear_dotted.Goals as goal

pub returns-then-starts_with : goal.returns-then-starts_with
returns-then-starts_with c =
    subst (λ (said : Heard). IfOk c.hear_inquiry.result (λ heard. heard ≡ said))
    (ap (λ (l : List ℕ). asked_heard Why l (line_said l)) (rest_of c.args.line.now)
    ∙ heard_why c.args.line.now (sym c.starts_with.ensures.value ∙ c.if-starts_with.true)) c.hear_inquiry.ensures

pub returns-then-starts_with-2 : goal.returns-then-starts_with-2
returns-then-starts_with-2 c =
    subst (λ (said : Heard). IfOk c.hear_inquiry-then-starts_with-2.result (λ heard. heard ≡ said))
    (ap (λ (l : List ℕ). asked_heard Who l (line_said l)) (rest_of c.args.line.now)
    ∙ heard_who c.args.line.now (sym c.starts_with.ensures.value ∙ c.if-starts_with.false)
    (sym c.starts_with-2.ensures.value ∙ c.if-starts_with-2.true)) c.hear_inquiry-then-starts_with-2.ensures

pub returns : goal.returns
returns c =
    subst (λ (said : Heard). IfOk c.hear_word.result (λ heard. heard ≡ said))
    (heard_word c.args.line.now (sym c.starts_with.ensures.value ∙ c.if-starts_with.false)
    (sym c.starts_with-2.ensures.value ∙ c.if-starts_with-2.false)) c.hear_word.ensures
