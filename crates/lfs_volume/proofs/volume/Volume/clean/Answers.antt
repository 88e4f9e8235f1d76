use Rattle.std.proofs.Common.{rules, ◌≡◌, Some, sym, subst, ◌∙◌, arith}
use Rattle.lfs_model.specs.declared.journal.Event.TheVariants.{Cleaner}
use Rattle.lfs_model.specs.Runs.{outcome_of}
use Rattle.lfs_model.specs.Steps.{world_after}
use Rattle.lfs_volume.specs.Journals.{IsJournal, IsStep, Since}
use Rattle.lfs_volume.proofs.CleaningLemmas.{IsStep-cleaned}
use Rattle.lfs_volume.proofs.volume.Volume.clean.Goals as goal
use Rattle.lfs_volume.proofs.volume.Volume.clean.Goals.{After-enter}

-- the journal after the entry
longer : (g : _) (c : After-enter g)
    → Since (g.F.FileStore.state c.self.inside.since.value) c.self.inside.since_level
    (λ from. IsJournal from (g.F.FileStore.state c.cleaned-answer.new.store) c.self.inside.level
    c.enter.new.journal.items c.self.inside.limit)
longer g c = λ from begins.
    let old = g.F.FileStore.state c.self.inside.store in
    let new = g.F.FileStore.state c.cleaned-answer.new.store in
    let caller = c.args.cred.now in
    let j = c.self.invariant.1 from begins in
    let comes : outcome_of c.cleaned-answer.result ≡ Some c.in-Some.outcome = sym c.outcome.ensures ∙ c.in-Some.is in
    let step = IsStep-cleaned from old new c.self.inside.level c.self.inside.journal.items c.self.inside.limit caller
    c.args.call c.cleaned-answer.result
    c.in-Some.outcome j c.cleaned-answer.ensures.cleaned comes in
    c.enter.ensures.legal from old new c.self.inside.level c.self.inside.level c.self.inside.limit j
    (omega (arith, c.if-len-self.false, c.len.ensures, c.self.inside.journal.ok.0, j.within))
    (subst (λ k. IsStep old new c.self.inside.level
    (world_after old.shape.numbers c.self.inside.journal.items from) caller (Cleaner k c.in-Some.outcome))
    (sym c.in-Ok.ensures.asked) step)

pub invariant_of-self-2 : goal.invariant_of-self-2
invariant_of-self-2 g c = (
  c.self.invariant.0,
  longer g c,
  omega (arith, c.self.invariant.2, c.enter.ensures.room),
  c.enter.ensures.counted,
)

pub returns-clause-legal : goal.returns-clause-legal
returns-clause-legal g c = longer g c

pub invariant_of-self : goal.invariant_of-self
invariant_of-self g c = (c.self.invariant.0, search rules, c.self.invariant.2, c.self.invariant.3)

pub returns-then-len-self-clause-at_limit : goal.returns-then-len-self-clause-at_limit
returns-then-len-self-clause-at_limit g c = search rules

pub returns-then-len-self-clause-legal : goal.returns-then-len-self-clause-legal
returns-then-len-self-clause-legal g c = search rules

pub returns-then-len-self-clause-cleans : goal.returns-then-len-self-clause-cleans
returns-then-len-self-clause-cleans g c = search rules

pub returns-clause-entered : goal.returns-clause-entered
returns-clause-entered g c = search rules

pub returns-then-len-self-clause-full : goal.returns-then-len-self-clause-full
returns-then-len-self-clause-full g c = search rules

pub returns-then-len-self-clause-shown : goal.returns-then-len-self-clause-shown
returns-then-len-self-clause-shown g c = search rules

pub returns-then-len-self-clause-answered : goal.returns-then-len-self-clause-answered
returns-then-len-self-clause-answered g c = search rules

pub returns-then-len-self-clause-entered : goal.returns-then-len-self-clause-entered
returns-then-len-self-clause-entered g c = search rules

pub returns-then-len-self-clause-stays : goal.returns-then-len-self-clause-stays
returns-then-len-self-clause-stays g c = search rules

pub returns-then-len-self-clause-limit : goal.returns-then-len-self-clause-limit
returns-then-len-self-clause-limit g c = search rules

pub returns-in_default-clause-full : goal.returns-in_default-clause-full
returns-in_default-clause-full g c = search rules

pub returns-in_default-clause-at_limit : goal.returns-in_default-clause-at_limit
returns-in_default-clause-at_limit g c = search rules

pub returns-in_default-clause-shown : goal.returns-in_default-clause-shown
returns-in_default-clause-shown g c = search rules

pub returns-in_default-clause-answered : goal.returns-in_default-clause-answered
returns-in_default-clause-answered g c = search rules

pub returns-in_default-clause-entered : goal.returns-in_default-clause-entered
returns-in_default-clause-entered g c = search rules

pub returns-in_default-clause-legal : goal.returns-in_default-clause-legal
returns-in_default-clause-legal g c = search rules

pub returns-in_default-clause-stays : goal.returns-in_default-clause-stays
returns-in_default-clause-stays g c = search rules

pub returns-in_default-clause-cleans : goal.returns-in_default-clause-cleans
returns-in_default-clause-cleans g c = search rules

pub returns-in_default-clause-limit : goal.returns-in_default-clause-limit
returns-in_default-clause-limit g c = search rules

pub returns-clause-full : goal.returns-clause-full
returns-clause-full g c = search rules

pub returns-clause-at_limit : goal.returns-clause-at_limit
returns-clause-at_limit g c = search rules

pub returns-clause-shown : goal.returns-clause-shown
returns-clause-shown g c = search rules

pub returns-clause-answered : goal.returns-clause-answered
returns-clause-answered g c = search rules

pub returns-clause-stays : goal.returns-clause-stays
returns-clause-stays g c = search rules

pub returns-clause-cleans : goal.returns-clause-cleans
returns-clause-cleans g c = search rules

pub returns-clause-limit : goal.returns-clause-limit
returns-clause-limit g c = search rules
