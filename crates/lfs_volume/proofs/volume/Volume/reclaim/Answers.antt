use Rattle.std.proofs.Common.{Some, arith}
use Rattle.lfs_types.specs.declared.cleaner.CleanerCall.TheVariants.{Segclean}
use Rattle.lfs_volume.specs.Cleanings.{reclaim_answer}
use Rattle.lfs_volume.specs.Journals.{IsJournal, Since}
use Rattle.lfs_volume.proofs.CleaningLemmas.{IsStep-cleaned}
use Rattle.lfs_volume.proofs.volume.Volume.reclaim.Goals as goal
use Rattle.lfs_volume.proofs.volume.Volume.reclaim.Goals.{After-enter}

-- the journal after the entry
longer : (g : _) (c : After-enter g)
    → Since (g.F.FileStore.state c.self.inside.since.value) c.self.inside.since_level
    (λ from. IsJournal from (g.F.FileStore.state c.reclaimed-outcome.new.store) c.self.inside.level
    c.enter.new.journal.items c.self.inside.limit)
longer g c = λ from begins.
    let old = g.F.FileStore.state c.self.inside.store in
    let new = g.F.FileStore.state c.reclaimed-outcome.new.store in
    let caller = c.args.cred.now in
    let j = c.self.invariant.1 from begins in
    let outcome = c.reclaimed-outcome.result in
    let step = IsStep-cleaned from old new c.self.inside.level c.self.inside.journal.items c.self.inside.limit caller
    (Segclean c.args.segment) (reclaim_answer (Some outcome)) outcome j c.reclaimed-outcome.ensures.cleaned
    c.reclaimed-outcome.ensures.told in
    c.enter.ensures.legal from old new c.self.inside.level c.self.inside.level c.self.inside.limit j
    (omega (arith, c.if-is_full.false, c.len.ensures, c.self.inside.journal.ok.0, j.within)) step

pub invariant_of-self : goal.invariant_of-self
invariant_of-self g c = (
  c.self.invariant.0,
  longer g c,
  omega (arith, c.self.invariant.2, c.enter.ensures.room),
  c.enter.ensures.counted,
)

pub returns-clause-legal : goal.returns-clause-legal
returns-clause-legal g c = longer g c
