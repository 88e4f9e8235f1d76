use Rattle.std.proofs.Common.{◌∙◌, sym, subst}
use Rattle.std.specs.Prelude.{◌↔◌, IsTrue}
use Rattle.lfs_types.specs.Tree.{World}
use Rattle.lfs_types.specs.declared.answer.Answer.TheVariants.{Refused}
use Rattle.lfs_model.specs.declared.journal.Event.TheVariants.{User}
use Rattle.lfs_model.specs.Rules.{decide}
use Rattle.lfs_model.specs.Steps.{AllUsed}
use Rattle.lfs_trace.specs.Checking.{IsChecked, IsPlain, StandsAt, numbers_of, plain_state}
use Rattle.lfs_trace.proofs.StandingLemmas.{either, none_when, refusal_checked}
use Rattle.lfs_trace.proofs.checker.Checker.refused.Goals as goal

pub returns : goal.returns
returns c =
    subst (IsChecked c.args.self.now c.explain.new.self c.args.cred.now
    (User c.args.request.now (Refused c.args.resource))) (sym c.legal_if.ensures)
    (refusal_checked c.args.self.now c.explain.new.self c.args.cred.now c.args.request.now c.args.resource
    c.is_none-is_allowed.result c.is_number_left-is_number_left.result c.may_be_refused.result
    (subst (λ v. IsPlain (plain_state v.store)) c.self.view_is c.is_plain.ensures)
    c.explain.ensures.same
    (λ w at. none_when c.verdict.result (decide w c.args.cred.now c.args.request.now) c.is_none-is_allowed.result
    c.is_none-is_allowed.ensures
    (c.verdict.ensures ∙ c.in_ok-explain.ensures.verdict w at))
    (subst (λ v. (w : World) → StandsAt v w → IsTrue c.is_number_left-is_number_left.result
    ↔ ¬ (AllUsed (numbers_of v) w.rows)) c.self.view_is
    (λ w at. either c.is_number_left-is_number_left.result
    (AllUsed (plain_state c.self.inside.store).shape.numbers w.rows)
    (c.is_number_left-is_number_left.ensures.left w at.shown)
    (c.is_number_left-is_number_left.ensures.none w at.shown)))
    c.may_be_refused.ensures)
