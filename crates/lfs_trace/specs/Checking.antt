-- Where a checker of a trace stands, and what it says of the next entry.
use Rattle.std.specs.Prelude.{◌≡◌, ℕ, ◌+◌, ◌<◌, ◌≤◌, false, List, [], ◌∷◌, length, take, Option, None, Some, Result}
use Rattle.std.specs.Prelude.{IsErrOf, IsSome, OnErr, OnOk, vec_len}
use Rattle.std.specs.FinMap as map
use Rattle.lfs_types.specs.Caller.{Caller}
use Rattle.lfs_types.specs.Ranges.{most_inodes}
use Rattle.lfs_types.specs.StoreStates.{MayLackSpace, StoreState}
use Rattle.lfs_types.specs.Tree.{World, opening_world}
use Rattle.lfs_types.specs.declared.answer.Answer.{Answer}
use Rattle.lfs_types.specs.declared.answer.Served.{Served as Shown}
use Rattle.lfs_types.specs.declared.answer.Served.TheVariants.{Done}
use Rattle.lfs_types.specs.declared.answer.Served.TheVariants as Shows
use Rattle.lfs_types.specs.declared.level.Level.{Level}
use Rattle.lfs_types.specs.declared.request.Request.{Request}
use Rattle.lfs_types.specs.declared.request.Request.TheVariants.{Stat, Read, List as Names}
use Rattle.lfs_model.specs.declared.journal.Entry.{Entry}
use Rattle.lfs_model.specs.declared.journal.Event.{Event}
use Rattle.lfs_model.specs.Effects.{answer_of}
use Rattle.lfs_model.specs.Rules.{decide}
use Rattle.lfs_model.specs.Steps.{IsAnswer, IsEvent, IsLegal, after_event}
use Rattle.lfs_flatfiles.specs.FlatFiles.{state_of}
use Rattle.lfs_flatfiles.specs.declared.flat_files.FlatFiles.{FlatFiles}
use Rattle.lfs_calls.specs.Volumes.{IsVolume}
use Rattle.lfs_explain.specs.declared.trail.ShownRow.{ShownRow}
use Rattle.lfs_trace.specs.Judging.{IsOfRules}
use Rattle.lfs_trace.specs.declared.fault.EntryFault.{EntryFault}
use Rattle.lfs_trace.specs.declared.fault.EntryFault.TheVariants.{Illegal}

-- where a checker stands: a plain store and a securelevel, and how many segments the volume has whose trace it reads
pub record Standing : Type 0 where
  pub store : FlatFiles
  pub level : Level
  pub segments : ℕ

abbrev pub standing : FlatFiles → Level → ℕ → Standing
standing store level segments = record { store = store; level = level; segments = segments }

-- what contracts see of a plain store
abbrev pub plain_state : FlatFiles → StoreState
plain_state store = state_of (vec_len store.places) store.places.items

-- how many inode numbers the volume has
abbrev pub numbers_of : Standing → ℕ
numbers_of s = vec_len s.store.places

-- a checker's store and level show this world, which is a tree
pub record StandsAt (s : Standing) (w : World) : Type 0 where
  pub shown : IsVolume (plain_state s.store) w
  pub at_level : w.level ≡ s.level

-- a store has no more numbers than a volume may have, each of its files has one of them, and it never lacks space
pub record IsPlain (s : StoreState) : Type 0 where
  pub few : s.shape.numbers ≤ most_inodes
  pub within : (n : ℕ) → IsSome (map.get s.content n) → n < s.shape.numbers
  pub roomy : ¬ (MayLackSpace s)

-- What a checker says of the next entry's event. In each world at which it stood: where nothing is said against the
-- event, it may happen, and the checker stands at the world that it leaves; where it is said to be illegal, it may not;
-- and wherever something is said, the checker stands where it stood.
pub record IsChecked (old new : Standing) (caller : Caller) (event : Event)
    (result : Result (Unit {0}) EntryFault) : Type 0 where
  pub legal : OnOk result ((w : World) → StandsAt old w → IsEvent (numbers_of old) old.segments w caller event)
  pub leads : OnOk result ((w : World) → StandsAt old w → StandsAt new (after_event (numbers_of old) w caller event))
  pub illegal : IsErrOf result Illegal → (w : World) → StandsAt old w
      → ¬ (IsEvent (numbers_of old) old.segments w caller event)
  pub stays : OnErr result ((w : World) → StandsAt old w → StandsAt new w)
  pub numbers : numbers_of new ≡ numbers_of old
  pub segments : new.segments ≡ old.segments

-- a checker stands where it stood
pub record IsSameStanding (old new : Standing) : Type 0 where
  pub worlds : (w : World) → StandsAt old w → StandsAt new w
  pub back : (w : World) → StandsAt new w → StandsAt old w
  pub numbers : numbers_of new ≡ numbers_of old
  pub segments : new.segments ≡ old.segments

-- the rules' own answer to a call in a world
abbrev pub IsRuled : ℕ → World → Caller → Request → Answer → Type 0
IsRuled numbers w caller request answer = IsOfRules answer × IsAnswer numbers w caller request answer

-- the call only looks
abbrev pub IsLooking : Request → Type 0
IsLooking (Stat path) = Unit {0}
IsLooking (Read path off len) = Unit {0}
IsLooking (Names path) = Unit {0}
IsLooking request = ⊥

-- the superuser, in group 0
abbrev pub superuser : Caller
superuser = record { uid = 0; groups = 0 ∷ []; init = false }

-- the row that a path leads to, as the superuser's Stat shows it: none where it leads nowhere
abbrev pub IsRowAt : World → List (List ℕ) → Option ShownRow → Type 0
IsRowAt w path None = ¬ (decide w superuser (Stat path) ≡ None)
IsRowAt w path (Some row) = (decide w superuser (Stat path) ≡ None)
    × (Shows.Stat row.number row.attrs ≡ answer_of w (Stat path))

-- what a call shows whatever the tree is: all but a Stat, a Read and a List show that they are done
abbrev pub MayShow : Request → Shown → Type 0
MayShow (Stat path) shown = Unit {0}
MayShow (Read path off len) shown = Unit {0}
MayShow (Names path) shown = Unit {0}
MayShow request shown = shown ≡ Done

-- the first entry that isn't legal has this index: those before it are, and with it they aren't
pub record IsFirstIllegal (numbers segments : ℕ) (entries : List Entry) (at : ℕ) : Type 0 where
  pub within : at < length entries
  pub before : IsLegal numbers segments (take at entries) opening_world
  pub then : ¬ (IsLegal numbers segments (take (at + 1) entries) opening_world)
