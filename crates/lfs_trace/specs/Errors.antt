-- Entries whose denials are told by their error numbers alone, as those of another system are.
use Rattle.std.specs.Prelude.{◌≡◌, ℕ, List, [], ◌∷◌, Option, None, Some, Result, IsErrOf, OnErr, OnOk}
use Rattle.lfs_types.specs.Caller.{Caller}
use Rattle.lfs_types.specs.RuleCodes.{rule_error}
use Rattle.lfs_types.specs.Tree.{World}
use Rattle.lfs_types.specs.declared.answer.Answer.TheVariants as answer
use Rattle.lfs_types.specs.declared.rule.Denial.{Denial}
use Rattle.lfs_model.specs.declared.journal.Entry.{Entry}
use Rattle.lfs_model.specs.declared.journal.Event.{Event}
use Rattle.lfs_model.specs.declared.journal.Event.TheVariants.{User}
use Rattle.lfs_model.specs.Rules.{decide}
use Rattle.lfs_model.specs.Steps.{IsEvent, IsLegal, after_event}
use Rattle.lfs_trace.specs.Checking.{Standing, StandsAt, numbers_of}
use Rattle.lfs_trace.specs.declared.errors.Denials.{Denials}
use Rattle.lfs_trace.specs.declared.errors.Denials.TheVariants.{Whole, ByError}
use Rattle.lfs_trace.specs.declared.fault.EntryFault.{EntryFault}
use Rattle.lfs_trace.specs.declared.fault.EntryFault.TheVariants.{Illegal}

-- a decision is a denial with the error number of another: by any rule that refuses with it, at any place
abbrev pub HasErrorOf : Option Denial → Denial → Type 0
HasErrorOf None denial = ⊥
HasErrorOf (Some decided) denial = rule_error decided.rule ≡ rule_error denial.rule

-- an event may happen, where a user's denial tells its error number alone
abbrev pub IsEventByError : ℕ → ℕ → World → Caller → Event → Type 0
IsEventByError numbers segments w caller (User request (answer.Denied denial)) =
    HasErrorOf (decide w caller request) denial
IsEventByError numbers segments w caller event = IsEvent numbers segments w caller event

-- each entry may happen so in the world that those before it leave
abbrev pub IsLegalByError : ℕ → ℕ → List Entry → World → Type 0
IsLegalByError numbers segments [] w = Unit {0}
IsLegalByError numbers segments (entry ∷ entries) w =
    IsEventByError numbers segments w entry.cred entry.event
    × IsLegalByError numbers segments entries (after_event numbers w entry.cred entry.event)

-- the same, by what is compared of denials: the whole of them, or their error numbers alone
abbrev pub IsEventAs : Denials → ℕ → ℕ → World → Caller → Event → Type 0
IsEventAs Whole numbers segments w caller event = IsEvent numbers segments w caller event
IsEventAs ByError numbers segments w caller event = IsEventByError numbers segments w caller event

abbrev pub IsLegalAs : Denials → ℕ → ℕ → List Entry → World → Type 0
IsLegalAs Whole numbers segments entries w = IsLegal numbers segments entries w
IsLegalAs ByError numbers segments entries w = IsLegalByError numbers segments entries w

-- what a checker says of the next entry's event, as `IsChecked` has it, by what is compared of denials
pub record IsCheckedAs (denials : Denials) (old new : Standing) (caller : Caller) (event : Event)
    (result : Result (Unit {0}) EntryFault) : Type 0 where
  pub legal : OnOk result ((w : World) → StandsAt old w
      → IsEventAs denials (numbers_of old) old.segments w caller event)
  pub leads : OnOk result ((w : World) → StandsAt old w → StandsAt new (after_event (numbers_of old) w caller event))
  pub illegal : IsErrOf result Illegal → (w : World) → StandsAt old w
      → ¬ (IsEventAs denials (numbers_of old) old.segments w caller event)
  pub stays : OnErr result ((w : World) → StandsAt old w → StandsAt new w)
  pub numbers : numbers_of new ≡ numbers_of old
  pub segments : new.segments ≡ old.segments
