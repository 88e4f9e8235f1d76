use Rattle.std.proofs.Common.{◌≡◌, ap, IfOk, subst, sym, ◌∙◌}
use Rattle.lfs_hearing.specs.declared.fault.LineFault.TheVariants.{TooLong}
use Rattle.lfs_hearing.specs.declared.hearing.Heard.{Heard}
use Rattle.lfs_hearing.specs.declared.hearing.Heard.TheVariants.{Fault}
use Rattle.lfs_hearing.proofs.HearingLemmas.{heard_call, heard_dot, heard_long}
use Rattle.lfs_hearing.proofs.hearing.hear.Goals as goal

pub returns-then-line-gt-LINE_MAX : goal.returns-then-line-gt-LINE_MAX
returns-then-line-gt-LINE_MAX c = ap (Fault TooLong) c.none.ensures ∙ heard_long c.args.line.now c.if-line-gt-LINE_MAX.true

pub returns-then-is_dotted : goal.returns-then-is_dotted
returns-then-is_dotted c =
    subst (λ (said : Heard). IfOk c.hear_dotted.result (λ heard. heard ≡ said))
    (heard_dot c.args.line.now c.if-line-gt-LINE_MAX.false (sym c.is_dotted.ensures ∙ c.if-is_dotted.true))
    c.hear_dotted.ensures

pub returns-else-is_dotted : goal.returns-else-is_dotted
returns-else-is_dotted c =
    subst (λ (said : Heard). IfOk c.hear_call.result (λ heard. heard ≡ said))
    (heard_call c.args.line.now c.if-line-gt-LINE_MAX.false (sym c.is_dotted.ensures ∙ c.if-is_dotted.false))
    c.hear_call.ensures
