use Rattle.std.proofs.Common.{sym, subst, ◌∙◌}
use Rattle.std.specs.Prelude.{IfOk}
use Rattle.std.proofs.lemmas.Result.{IfOk-weaker}
use Rattle.lfs_calls.specs.Outcomes.{IsOutcome}
use Rattle.lfs_types.specs.Tree.{World}
use Rattle.lfs_trace.specs.Checking.{IsRuled, IsSameStanding, StandsAt, numbers_of, plain_state, standing}
use Rattle.lfs_trace.proofs.CheckLemmas.{ruled}
use Rattle.lfs_trace.proofs.StandingLemmas.{looked_on, same_standing, still_stands}
use Rattle.lfs_trace.proofs.checker.Checker.looked.Goals as goal

pub invariant_of-self : goal.invariant_of-self
invariant_of-self c =
    still_stands c.self.inside.store c.serve.new.store c.self.inside.level c.self.inside.segments
    (looked_on c.args.request.now (plain_state c.self.inside.store)
    (plain_state c.serve.new.store) c.requires c.serve.ensures.call.looks)
    c.self.inside.numbers c.self.invariant

pub returns-clause-ruled : goal.returns-clause-ruled
returns-clause-ruled c =
    subst (λ v. IfOk c.enough.result (λ answer. (w : World) → StandsAt v w
    → IsRuled (numbers_of v) w c.args.cred.now c.args.request.now answer)) c.self.view_is
    (IfOk-weaker c.enough.result _ _ (λ answer h w at.
    ruled (plain_state c.self.inside.store) w c.args.cred.now c.args.request.now answer c.is_plain.ensures at.shown
    (subst (IsOutcome (plain_state c.self.inside.store) w c.args.cred.now c.args.request.now)
    (sym (h.0 ∙ c.answered.ensures)) (c.serve.ensures.call.outcome w at.shown at.at_level)) h.1)
    c.enough.ensures)

pub returns-clause-same : goal.returns-clause-same
returns-clause-same c =
    subst (λ v. IsSameStanding v (standing c.serve.new.store c.self.inside.level c.self.inside.segments)) c.self.view_is
    (same_standing c.self.inside.store c.serve.new.store c.self.inside.level c.self.inside.segments
    (looked_on c.args.request.now (plain_state c.self.inside.store)
    (plain_state c.serve.new.store) c.requires c.serve.ensures.call.looks))
