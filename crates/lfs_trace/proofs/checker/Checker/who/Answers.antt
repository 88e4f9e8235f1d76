use Rattle.lfs_trace.proofs.StandingLemmas.{still_stands}
use Rattle.lfs_trace.proofs.checker.Checker.who.Goals as goal

pub invariant_of-self : goal.invariant_of-self
invariant_of-self c =
    still_stands c.self.inside.store c.who_could.new.store c.self.inside.level c.self.inside.segments
    c.who_could.ensures.state c.self.inside.numbers c.self.invariant
