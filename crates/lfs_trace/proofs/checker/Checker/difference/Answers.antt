use Rattle.std.proofs.Common.{subst}
use Rattle.std.specs.Prelude.{IfOk}
use Rattle.std.proofs.lemmas.Result.{IfOk-weaker}
use Rattle.lfs_trace.specs.Alike.{TellsDifference}
use Rattle.lfs_trace.specs.Checking.{standing}
use Rattle.lfs_trace.proofs.AlikeLemmas.{tells}
use Rattle.lfs_trace.proofs.StandingLemmas.{still_stands}
use Rattle.lfs_trace.proofs.checker.Checker.difference.Goals as goal

pub invariant_of-self : goal.invariant_of-self
invariant_of-self g c =
    still_stands c.self.inside.store c.difference.new.plain c.self.inside.level c.self.inside.segments
    c.difference.ensures.plain c.self.inside.numbers c.self.invariant

pub returns-clause-tells : goal.returns-clause-tells
returns-clause-tells g c =
    let state = g.F.FileStore.state c.args.store.now in
    subst (λ v. IfOk c.difference.result (TellsDifference v state)) c.self.view_is
    (IfOk-weaker c.difference.result _ _
    (λ found is. tells (standing c.self.inside.store c.self.inside.level c.self.inside.segments) state found is)
    c.difference.ensures.found)
