use Rattle.std.proofs.Common.{rules, ◌≡◌, ◌-◌, ◌^◌, ◌<◌, ◌++◌, length, Some, ap, sym, subst, ◌∙◌, arith}
use Rattle.lfs_types.specs.StoreStates.{MovesBase, StoreState}
use Rattle.lfs_types.specs.Tree.{World}
use Rattle.lfs_types.specs.declared.answer.Answer.TheVariants.{Refused}
use Rattle.lfs_types.specs.declared.answer.Resource.TheVariants.{NoMemory}
use Rattle.lfs_model.specs.declared.journal.Event.TheVariants.{User}
use Rattle.lfs_model.specs.Runs.{journaled, kept_entry}
use Rattle.lfs_model.specs.Steps.{world_after}
use Rattle.lfs_calls.specs.Asked.{IsAsked}
use Rattle.lfs_calls.specs.Entries.{LeavesEntries, OnServed}
use Rattle.lfs_calls.specs.Outcomes.{IsOutcome}
use Rattle.lfs_volume.specs.Journals.{AtPresent, IsStep}
use Rattle.lfs_volume.proofs.JournalLemmas.{entered_event, entries_at, IsJournal-same, IsStep-answered}
use Rattle.lfs_volume.proofs.volume.Volume.answer_and_enter.Goals as goal
use Rattle.lfs_volume.proofs.volume.Volume.answer_and_enter.Goals.{After-answer_twice-answers, After-enter}

-- the store before the call and after it
abbrev before : (g : _) (c : After-answer_twice-answers g) → StoreState
before g c = g.F.FileStore.state c.self.inside.store

abbrev after : (g : _) (c : After-answer_twice-answers g) → StoreState
after g c = g.F.FileStore.state c.answer_twice-answers.new.store

-- the world before the call, of a journal that began in this one
abbrev world : (g : _) (c : After-answer_twice-answers g) → World → World
world g c from = world_after (before g c).shape.numbers c.self.inside.journal.items from

pub answer_twice-answers-requires : goal.answer_twice-answers-requires
answer_twice-answers-requires g c =
    let begun = c.self.invariant.0 in (
      world_after (g.F.FileStore.state c.self.inside.store).shape.numbers c.self.inside.journal.items begun.0,
      (c.self.invariant.1 begun.0 begun.1).shown,
    )

pub returns-in_default-clause-legal : goal.returns-in_default-clause-legal
returns-in_default-clause-legal g c = λ from begins.
    let k = (goal.at.returns-in_default-clause-legal g c).After-answer_twice-answers in
    let a = c.in_default.ensures.answered in
    IsJournal-same from (before g k) (after g k) c.self.inside.level c.answer_twice-answers.new.level
    c.self.inside.journal.items c.self.inside.limit (c.self.invariant.1 from begins) (a.unserved tt) a.follows

pub invariant_of-self : goal.invariant_of-self
invariant_of-self g c = (
  c.self.invariant.0,
  returns-in_default-clause-legal g c,
  c.self.invariant.2,
  c.self.invariant.3,
)

pub returns-in_default-clause-outcome : goal.returns-in_default-clause-outcome
returns-in_default-clause-outcome g c =
    let k = (goal.at.returns-in_default-clause-outcome g c).After-answer_twice-answers in
    let a = c.in_default.ensures.answered in
    subst (λ v. AtPresent g.F.FileStore.state v
    (λ w. IsOutcome (g.F.FileStore.state v.store) w c.args.cred.now c.args.request (Refused NoMemory)))
    c.self.view_is
    (λ from begins. let j = c.self.invariant.1 from begins in a.outcome (world g k from) j.shown j.at_level)

pub returns-clause-outcome : goal.returns-clause-outcome
returns-clause-outcome g c =
    let k = (goal.at.returns-clause-outcome g c).After-answer_twice-answers in
    subst (λ v. AtPresent g.F.FileStore.state v
    (λ w. IsOutcome (g.F.FileStore.state v.store) w c.args.cred.now c.args.request c.in-Some.answer)) c.self.view_is
    (λ from begins. let j = c.self.invariant.1 from begins in
    c.in-Some.ensures.answered.2.outcome (world g k from) j.shown j.at_level)

pub returns-clause-entries : goal.returns-clause-entries
returns-clause-entries g c =
    let k = (goal.at.returns-clause-entries g c).After-answer_twice-answers in
    subst (λ v. AtPresent g.F.FileStore.state v
    (λ w. OnServed c.in-Some.answer (LeavesEntries c.args.request (g.F.FileStore.state v.store).content
    (after g k).content w.rows))) c.self.view_is
    (λ from begins. let j = c.self.invariant.1 from begins in
    entries_at (λ w. LeavesEntries c.args.request (before g k).content (after g k).content w.rows)
    (before g k) c.in-Some.answer (world g k from) j.shown c.in-Some.ensures.answered.2.entries)

pub returns-clause-legal : goal.returns-clause-legal
returns-clause-legal g c = λ from begins.
    let k = (goal.at.returns-clause-legal g c).After-answer_twice-answers in
    let j = c.self.invariant.1 from begins in
    let twice = c.in-Some.ensures.answered in
    let step = IsStep-answered from (before g k)
    (after g k) c.self.inside.level c.answer_twice-answers.new.level c.self.inside.journal.items c.self.inside.limit
    c.args.cred.now c.args.request c.in-Some.answer
    j twice.2 twice.1 in
    c.enter.ensures.legal from (before g k) (after g k) c.self.inside.level c.answer_twice-answers.new.level
    c.self.inside.limit j
    (subst (λ v. length v.journal < v.limit) (sym c.self.view_is) c.requires.room)
    (subst (λ a. IsStep (before g k) (after g k) c.answer_twice-answers.new.level (world g k from) c.args.cred.now
    (User c.args.request a)) (sym twice.0) step)

pub invariant_of-self-2 : goal.invariant_of-self-2
invariant_of-self-2 g c = (
  c.self.invariant.0,
  returns-clause-legal g c,
  omega (arith, c.self.invariant.2, c.enter.ensures.room),
  c.enter.ensures.counted,
)

pub enter-requires : goal.enter-requires
enter-requires g c = record {
  room = omega (
    arith,
    subst (λ v. length v.journal < v.limit) (sym c.self.view_is) c.requires.room,
    c.self.invariant.2,
    c.self.inside.journal.ok.0,
  );
  few = subst (λ v. length v.journal < 2 ^ 32 - 1) (sym c.self.view_is) c.requires.few;
  counted = c.self.invariant.3;
}

pub returns-clause-entered : goal.returns-clause-entered
returns-clause-entered g c =
    let k = (goal.at.returns-clause-entered g c).After-answer_twice-answers in
    let v = c.self.inside in
    let begun = c.self.invariant.0 in
    let j = c.self.invariant.1 begun.0 begun.1 in
    let twice = c.in-Some.ensures.answered in
    let event = entered_event (before g k) (world g k begun.0) c.args.cred.now c.args.request c.in-Some.answer
    (twice.2.outcome (world g k begun.0) j.shown j.at_level) twice.1 in
    subst (λ x. c.enter.new.journal.items ≡ x.journal
    ++ kept_entry c.args.session c.args.cred.now c.args.request c.in-Some.answer) c.self.view_is
    (c.enter.ensures.entered
    ∙ ap (λ a. v.journal.items ++ journaled c.args.session c.args.cred.now (Some (User c.args.request a))) twice.0
    ∙ sym (ap (λ e. v.journal.items ++ journaled c.args.session c.args.cred.now e) event))

pub returns-clause-limit : goal.returns-clause-limit
returns-clause-limit g c = search rules

pub returns-in_default-clause-asked : goal.returns-in_default-clause-asked
returns-in_default-clause-asked g c =
    subst (λ v. IsAsked g.F.FileStore.state g.F.FileStore.made v.store c.args.cred.now c.args.request
    (Refused NoMemory) c.answer_twice-answers.new.store) c.self.view_is c.in_default.ensures.asked

pub returns-clause-asked : goal.returns-clause-asked
returns-clause-asked g c =
    subst (λ v. IsAsked g.F.FileStore.state g.F.FileStore.made v.store c.args.cred.now c.args.request c.in-Some.answer
    c.answer_twice-answers.new.store) c.self.view_is c.in-Some.ensures.asked

pub returns-in_default-clause-base : goal.returns-in_default-clause-base
returns-in_default-clause-base g c =
    let k = (goal.at.returns-in_default-clause-base g c).After-answer_twice-answers in
    subst (λ v. MovesBase (g.F.FileStore.state v.store) (after g k)) c.self.view_is k.answer_twice-answers.ensures.base

pub returns-clause-base : goal.returns-clause-base
returns-clause-base g c =
    let k = (goal.at.returns-clause-base g c).After-answer_twice-answers in
    subst (λ v. MovesBase (g.F.FileStore.state v.store) (after g k)) c.self.view_is k.answer_twice-answers.ensures.base
