use Rattle.std.proofs.Common.{subst}
use Rattle.std.specs.Prelude.{IfOk}
use Rattle.std.proofs.lemmas.Result.{IfOk-weaker}
use Rattle.lfs_types.specs.Tree.{World}
use Rattle.lfs_who.specs.WhoText.{IsWhoTold}
use Rattle.lfs_trace.specs.Checking.{StandsAt}
use Rattle.lfs_trace.proofs.StandingLemmas.{still_stands}
use Rattle.lfs_trace.proofs.checker.Checker.tell_who.Goals as goal

pub invariant_of-self : goal.invariant_of-self
invariant_of-self c =
    still_stands c.self.inside.store c.tell_who.new.store c.self.inside.level c.self.inside.segments
    c.tell_who.ensures.state c.self.inside.numbers c.self.invariant

pub returns-clause-told : goal.returns-clause-told
returns-clause-told c =
    subst (λ v. IfOk c.tell_who.result (λ text. (w : World) → StandsAt v w
    → IsWhoTold w c.args.request.now text.items)) c.self.view_is
    (IfOk-weaker c.tell_who.result _ _ (λ text is w at. is w at.shown at.at_level) c.tell_who.ensures.told)
