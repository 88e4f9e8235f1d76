use Rattle.std.proofs.Common.{sym, subst}
use Rattle.lfs_types.specs.declared.request.Request.TheVariants.{Read}
use Rattle.lfs_model.specs.Steps.{world_after}
use Rattle.lfs_calls.specs.Outcomes.{IsOutcome}
use Rattle.lfs_volume.specs.Journals.{AtPresent, IsJournal}
use Rattle.lfs_volume.proofs.volume.Volume.show.Goals as goal

pub read-requires : goal.read-requires
read-requires g c =
    let begun = c.self.invariant.0 in (
      world_after (g.F.FileStore.state c.self.inside.store).shape.numbers c.self.inside.journal.items begun.0,
      (c.self.invariant.1 begun.0 begun.1).shown,
    )

pub invariant_of-self : goal.invariant_of-self
invariant_of-self g c = (
  c.self.invariant.0,
  λ from begins. subst (λ s. IsJournal from s c.self.inside.level c.self.inside.journal.items c.self.inside.limit)
      (sym c.read.ensures.state) (c.self.invariant.1 from begins),
  c.self.invariant.2,
  c.self.invariant.3,
)

pub returns-clause-outcome : goal.returns-clause-outcome
returns-clause-outcome g c =
    let state = g.F.FileStore.state in
    let who = c.args.cred.now in
    let request = Read c.args.path.now c.args.off c.args.len in
    subst (λ v. AtPresent state v (λ w. IsOutcome (state v.store) w who request c.answered.result)) c.self.view_is
    (λ from begins. let j = c.self.invariant.1 from begins in
    subst (λ a. IsOutcome (state c.self.inside.store)
    (world_after (state c.self.inside.store).shape.numbers c.self.inside.journal.items from) who request a)
    (sym c.answered.ensures)
    ((c.read.ensures.call c.self.inside.level).outcome
    (world_after (state c.self.inside.store).shape.numbers c.self.inside.journal.items from) j.shown j.at_level))
