-- A volume that is talked to, whose journal is given to a sink, and what was handed out of the journal by then.
use Rattle.std.specs.Prelude.{◌≡◌, ℕ, ◌+◌, ◌<◌, ◌≤◌, ◌⊎◌, Bool, true, false, List, [], ◌++◌, drop, length, Option}
use Rattle.lfs_model.specs.Steps.{IsLegal, world_after}
use Rattle.lfs_model.specs.declared.journal.Entry.{Entry}
use Rattle.lfs_model.specs.declared.steps.StepAnswer.{StepAnswer}
use Rattle.lfs_types.specs.StoreStates.{StoreState}
use Rattle.lfs_volume.specs.Journals.{AtPresent, Begins, Since}
use Rattle.lfs_volume.specs.Seen.{Seen}
use Rattle.lfs_audit.specs.Filing.{Takes as TakesOf, closed, drained}
use Rattle.lfs_sinks.specs.Refusals.{tally_of}
use Rattle.lfs_sinks.specs.declared.totals.Tally.{Tally}

-- a volume, the sink of its journal, what is counted of the entries that were handed out and of the answers that were
-- told, whether the sink takes more, and whether the cleaner makes a pass unasked where few segments are clean
pub record Held (F J : Type 0) : Type 0 where
  pub volume : Seen F
  pub sink : J
  pub tally : Tally
  pub is_open : Bool
  pub cleans : Bool

-- a volume's journal is empty, nothing was handed out of it, and no answer was told
abbrev pub HasBegun : {F J : Type 0} → Held F J → Type 0
HasBegun held = (held.tally ≡ tally_of [] []) × (held.volume.journal ≡ [])

-- a volume that is talked to, the entries that were handed out of its journal, the answers that were told, whether more
-- entries may be handed out, and whether passes are made unasked
pub record Course (F : Type 0) : Type 0 where
  pub volume : Seen F
  pub handed : List Entry
  pub answers : List StepAnswer
  pub is_open : Bool
  pub cleans : Bool

abbrev pub course_of : {F J : Type 0} → Held F J → List Entry → List StepAnswer → Course F
course_of held handed answers = record {
  volume = held.volume;
  handed = handed;
  answers = answers;
  is_open = held.is_open;
  cleans = held.cleans;
}

-- a journal has room for what a line may ask for, or would not have it without entries
abbrev pub HasRoom : {F : Type 0} → Seen F → Type 0
HasRoom v = 107 ≤ v.limit → length v.journal + 107 ≤ v.limit

-- all entries were handed out to a sink that takes them
pub record IsHanded {F : Type 0} (now after : Course F) : Type 0 where
  pub opened : now.is_open ≡ true
  pub is : after ≡ record now { volume = drained now.volume; handed = now.handed ++ now.volume.journal }

-- the sink takes no more of the entries that there are, and from then on no call is served
pub record IsShut {F : Type 0} (now after : Course F) : Type 0 where
  pub opened : now.is_open ≡ true
  pub some : 1 ≤ length now.volume.journal
  pub is : after ≡ record now { volume = closed now.volume; is_open = false }

-- A talk goes on as it is; or its sink took the entries, and they were handed out; or its sink takes no more. While it
-- does there is room for what a line may ask for.
pub record MovesOn {F : Type 0} (now after : Course F) : Type 0 where
  pub left : (after ≡ now) ⊎ (IsHanded now after ⊎ IsShut now after)
  pub room : after.is_open ≡ true → HasRoom after.volume

-- a sink, by what it shows: the bytes that it holds, and the number of its next line
pub record Sink (J : Type 0) : Type 1 where
  pub contents : J → Option (List ℕ)
  pub next : J → ℕ

abbrev pub sink_of : {J : Type 0} → (J → Option (List ℕ)) → (J → ℕ) → Sink J
sink_of contents next = record { contents = contents; next = next }

-- a sink took these entries
abbrev pub Takes : {J : Type 0} → Sink J → J → J → List Entry → Type 0
Takes sink old new entries = TakesOf sink.contents sink.next old new entries

-- Since a talk began with an empty journal, these entries were handed out, a legal run from where the journal began then
-- to where it begins now, and these answers were told; they are counted; and a sink that takes more has the line of each entry, of those that were
-- handed out and of those that are kept, in order, each once.
pub record HasKept {F J : Type 0} (state : F → StoreState) (sink : Sink J) (old new : Held F J)
    (handed : List Entry) (answers : List StepAnswer) : Type 0 where
  pub counted : new.tally ≡ tally_of handed answers
  pub caught : new.is_open ≡ true → Takes sink old.sink new.sink (handed ++ new.volume.journal)
  pub opened : new.is_open ≡ true → old.is_open ≡ true
  pub legal : Since (state old.volume.since) old.volume.since_level (λ from.
      let shape = (state old.volume.store).shape in
      IsLegal shape.numbers shape.segments handed from
      × Begins (state new.volume.since) new.volume.since_level (world_after shape.numbers handed from))
  pub shape : (state new.volume.store).shape ≡ (state old.volume.store).shape

-- A volume that is talked to became this one, and these further entries were handed out: none, or all of its journal. A
-- sink that takes more has got the lines of its entries behind so many.
pub record Moves {F J : Type 0} (state : F → StoreState) (sink : Sink J) (before : ℕ) (old new : Held F J)
    (more : List Entry) : Type 0 where
  pub moves : MovesOn (course_of old [] []) (course_of new more [])
  pub counted : (handed : List Entry) (answers : List StepAnswer) → old.tally ≡ tally_of handed answers
      → new.tally ≡ tally_of (handed ++ more) answers
  pub caught : new.is_open ≡ true → Takes sink old.sink new.sink (drop before old.volume.journal)
  pub legal : Since (state old.volume.since) old.volume.since_level (λ from.
      let shape = (state old.volume.store).shape in
      IsLegal shape.numbers shape.segments more from
      × Begins (state new.volume.since) new.volume.since_level (world_after shape.numbers more from))

-- a volume is as it was, or its entries were let go: its journal begins at the tree that it led to
abbrev pub IsLetGo : {F : Type 0} → (F → StoreState) → Seen F → Seen F → Type 0
IsLetGo state old new =
    (new ≡ old) ⊎ ((new ≡ drained old) × AtPresent state old (Begins (state new.since) new.since_level))

-- a volume's journal takes a further entry, where it may have one at all
abbrev pub MayEnter : {F : Type 0} → Seen F → Type 0
MayEnter v = 1 ≤ v.limit → length v.journal < v.limit
