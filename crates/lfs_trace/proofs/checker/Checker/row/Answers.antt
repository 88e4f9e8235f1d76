use Rattle.std.proofs.Common.{subst}
use Rattle.lfs_types.specs.Tree.{World}
use Rattle.lfs_trace.specs.Checking.{IsRowAt, StandsAt, plain_state}
use Rattle.lfs_trace.proofs.CheckLemmas.{row_at}
use Rattle.lfs_trace.proofs.StandingLemmas.{still_stands}
use Rattle.lfs_trace.proofs.checker.Checker.row.Goals as goal

pub invariant_of-self : goal.invariant_of-self
invariant_of-self c =
    still_stands c.self.inside.store c.stat.new.store c.self.inside.level c.self.inside.segments c.stat.ensures.state
    c.self.inside.numbers c.self.invariant

pub returns-clause-row : goal.returns-clause-row
returns-clause-row c =
    subst (λ v. (w : World) → StandsAt v w → IsRowAt w c.args.path.now c.row_of.result) c.self.view_is
    (λ w at. row_at (plain_state c.self.inside.store)
    (plain_state c.stat.new.store) w c.in-Ok.superuser c.args.path.now c.stat.result c.row_of.result
    at.shown c.stat.ensures.call c.in-Ok.ensures.1 c.row_of.ensures)
