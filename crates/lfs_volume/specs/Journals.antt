-- What the journal of a volume over a store is, and how a step leaves a store and a level.
use Rattle.std.specs.Prelude.{◌≡◌, ℕ, ◌+◌, ◌<◌, ◌≤◌, false, List, length}
use Rattle.lfs_types.specs.Caller.{Caller}
use Rattle.lfs_types.specs.Shown.{ServesList}
use Rattle.lfs_types.specs.StoreStates.{Follows, MayLackSpace, StoreState}
use Rattle.lfs_types.specs.Tree.{World}
use Rattle.lfs_types.specs.declared.answer.Answer.{Answer}
use Rattle.lfs_types.specs.declared.level.Level.{Level}
use Rattle.lfs_types.specs.declared.request.Request.{Request}
use Rattle.lfs_model.specs.declared.journal.Entry.{Entry}
use Rattle.lfs_model.specs.declared.journal.Event.{Event}
use Rattle.lfs_model.specs.Runs.{IsNoSpace, IsShort, IsUnserved, cleans}
use Rattle.lfs_model.specs.Steps.{IsEvent, IsLegal, after_answer, after_event, world_after}
use Rattle.lfs_calls.specs.Calls.{LooksOn, OnUnasked}
use Rattle.lfs_calls.specs.Entries.{LeavesEntries, OnServed}
use Rattle.lfs_calls.specs.Outcomes.{IsOutcome}
use Rattle.lfs_calls.specs.Volumes.{InWorld, IsVolume}
use Rattle.lfs_volume.specs.Seen.{Seen}

-- a store in this state and a level show this world, which is a tree: a journal may begin there
pub record Begins (s : StoreState) (level : Level) (from : World) : Type 0 where
  pub shown : IsVolume s from
  pub at_level : from.level ≡ level

-- there is a world that a store and a level show
abbrev pub HasBegun : StoreState → Level → Type 0
HasBegun s level = (from : World) × Begins s level from

-- what holds from each world that a store and a level show, as they were when a journal began
abbrev pub Since : StoreState → Level → (World → Type 0) → Type 0
Since s level P = (from : World) → Begins s level from → P from

-- what holds in each world that the journal of a volume leads to
abbrev pub AtPresent : {F : Type 0} → (F → StoreState) → Seen F → (World → Type 0) → Type 0
AtPresent state v P =
    Since (state v.since) v.since_level (λ from. P (world_after (state v.store).shape.numbers v.journal from))

-- The journal of a volume over a store in this state, at this level, that began in this world: it is a legal run from
-- there to the world that store and level show, which is a tree; it is no longer than its limit; and, where no growth is
-- refused past a share, a call refused for want of space stands in it only where at most two of the segments that are
-- clean now weren't made clean after it.
pub record IsJournal (from : World) (s : StoreState) (level : Level) (entries : List Entry) (limit : ℕ) : Type 0 where
  pub legal : IsLegal s.shape.numbers s.shape.segments entries from
  pub shown : IsVolume s (world_after s.shape.numbers entries from)
  pub at_level : (world_after s.shape.numbers entries from).level ≡ level
  pub within : length entries ≤ limit
  pub space : s.shape.has_share ≡ false → IsShort s.clean entries

-- A step over a store that shows this world: it may happen there, store and level show the world that it leaves,
-- NoSpace comes only where a change may lack space, and, where no growth is refused past a share, no more segments become
-- clean than the event tells.
pub record IsStep (old new : StoreState) (level_after : Level) (w : World) (caller : Caller)
    (event : Event) : Type 0 where
  pub happens : IsEvent old.shape.numbers old.shape.segments w caller event
  pub leaves : IsVolume new (after_event old.shape.numbers w caller event)
  pub leveled : (after_event old.shape.numbers w caller event).level ≡ level_after
  pub space : IsNoSpace event → MayLackSpace old
  pub clean : old.shape.has_share ≡ false → new.clean ≤ old.clean + cleans event
  pub shape : new.shape ≡ old.shape

-- A journal became this one by an entry of this event: from wherever it began, over each store and level whose journal
-- it was, with room for one more, it is the journal of those that the step leaves.
abbrev pub StaysJournal : List Entry → List Entry → Caller → Event → Type 0
StaysJournal before after caller event =
    (from : World) (old new : StoreState) (level level_after : Level) (limit : ℕ)
    → IsJournal from old level before limit → length before < limit
    → IsStep old new level_after (world_after old.shape.numbers before from) caller event
    → IsJournal from new level_after after limit

-- content and level are as before
pub record Stays (old new : StoreState) (level level_after : Level) : Type 0 where
  pub content : new.content ≡ old.content
  pub at_level : level_after ≡ level

-- A user's call was answered so over a store and a level: the answer has its cause, store and level show the world that
-- it leaves, a served call leaves the entries of directories in their places, a call that isn't served or lists changes
-- neither content nor level, one that looks or asks the store for no changes leaves the whole state as it was, and the
-- state that is left is a later one (`Follows`).
pub record IsAnswered (old new : StoreState) (level level_after : Level) (caller : Caller) (request : Request)
    (answer : Answer) : Type 0 where
  pub outcome : InWorld old (λ w. w.level ≡ level → IsOutcome old w caller request answer)
  pub leaves : InWorld old (λ w. IsVolume new (after_answer old.shape.numbers w caller request answer))
  pub leveled : (w : World) → w.level ≡ level → (after_answer old.shape.numbers w caller request answer).level
      ≡ level_after
  pub entries : OnServed answer (InWorld old (λ w. LeavesEntries request old.content new.content w.rows))
  pub unserved : IsUnserved answer → Stays old new level level_after
  pub listed : ServesList answer → Stays old new level level_after
  pub looks : LooksOn request old new
  pub unasked : OnUnasked answer (new ≡ old)
  pub follows : Follows old new
