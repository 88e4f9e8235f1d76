use Rattle.std.proofs.Common.{subst}
use Rattle.lfs_types.specs.declared.answer.Answer.TheVariants.{Served}
use Rattle.lfs_model.specs.declared.journal.Event.TheVariants.{User}
use Rattle.lfs_trace.specs.Checking.{IsChecked, standing}
use Rattle.lfs_trace.proofs.StandingLemmas.{checked_stands}
use Rattle.lfs_trace.proofs.checker.Checker.served.Goals as goal

pub invariant_of-self : goal.invariant_of-self
invariant_of-self c =
    checked_stands c.self.inside.numbers (standing c.self.inside.store c.self.inside.level c.self.inside.segments)
    (standing c.make.new.store c.make.new.level c.self.inside.segments) c.args.entry.now.cred
    (User c.args.request.now (Served c.args.shown.now)) c.make.result
    (c.make.ensures c.self.inside.segments c.args.shown.now (c.may_show.ensures.0 c.if-not-may_show.false) c.requires)
    c.self.invariant

pub returns : goal.returns
returns c =
    subst (λ v. IsChecked v (standing c.make.new.store c.make.new.level c.self.inside.segments)
    c.args.entry.now.cred (User c.args.request.now (Served c.args.shown.now)) c.make.result) c.self.view_is
    (c.make.ensures c.self.inside.segments c.args.shown.now (c.may_show.ensures.0 c.if-not-may_show.false) c.requires)
