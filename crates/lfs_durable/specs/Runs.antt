-- A run of a store, and what is found after a crash in it.
use Rattle.std.specs.Prelude.{◌≡◌, ℕ, suc, ◌<◌, ◌≤◌, ◌⊎◌, List, Some}
use Rattle.lfs_types.specs.declared.store.Change.{Change}
use Rattle.lfs_types.specs.declared.store.Reserve.{Reserve}
use Rattle.lfs_types.specs.Tree.{World}
use Rattle.lfs_segments.specs.Memory.{SegmentMemory}
use Rattle.lfs_parts.specs.declared.parts.Parts.{Parts}
use Rattle.lfs_parts.specs.Files.{content_of}
use Rattle.lfs_parts.specs.Store.{IsFlushed, IsStore}
use Rattle.lfs_segwrite.specs.Applying.{MakesChanges, WritesWaiting}
use Rattle.lfs_model.specs.World.{IsTree}
use Rattle.lfs_calls.specs.Content.{Shows}
use Rattle.lfs_durable.specs.Contents.{IsMadeOf}
use Rattle.lfs_durable.specs.Crashes.{IsMidway}
use Rattle.lfs_durable.specs.Names.{IsDurable}

-- a call of a store: changes on somebody's behalf, or a Sync
pub data StoreCall : Type 0 where
  applies : Reserve → List Change → StoreCall
  syncs : StoreCall

-- from one state to another a call was made
abbrev pub Makes : StoreCall → Parts → Parts → Type 0
Makes (applies by changes) old new = MakesChanges by changes old new
Makes syncs old new = WritesWaiting old new

-- the last serial hasn't come
pub record IsCounted (p : Parts) : Type 0 where
  pub next : ℕ
  pub serial : p.log.memory.serial ≡ Some next
  pub bound : next < 4294967295

-- a store shows a tree
pub record ShowsTree (p : Parts) : Type 0 where
  pub world : World
  pub shows : Shows (content_of p) world
  pub tree : IsTree world.rows

-- So many calls were made, from a durable store on: each state shows a tree, and has serials left.
pub record IsRun (states : ℕ → Parts) (calls : ℕ → StoreCall) (count : ℕ) : Type 0 where
  pub start : IsDurable (states 0)
  pub each : (k : ℕ) → k < count → Makes (calls k) (states k) (states (suc k))
  pub counted : (k : ℕ) → k ≤ count → IsCounted (states k)
  pub trees : (k : ℕ) → k ≤ count → ShowsTree (states k)

-- the content of a state of the run that is no older than the last Sync
pub record IsOfPrefix (states : ℕ → Parts) (calls : ℕ → StoreCall) (count : ℕ) (found : Parts) : Type 0 where
  pub calls_made : ℕ
  pub within : calls_made ≤ count
  pub synced : (k : ℕ) → k < count → calls k ≡ syncs → k < calls_made
  pub content : content_of found ≡ content_of (states calls_made)

-- After a crash behind so many calls, at rest or between any two block writes of the next flush, a store on what is found
-- contains what the store contained behind some of these calls: at least those up to the last Sync.
abbrev pub FindsPrefix : Type 0
FindsPrefix = (states : ℕ → Parts) (calls : ℕ → StoreCall) (count : ℕ) (n : SegmentMemory) (found : Parts)
    → IsRun states calls count → (n ≡ (states count).log.memory) ⊎ IsMidway (states count) n → IsMadeOf n found.log
    → IsStore found → IsFlushed found → IsOfPrefix states calls count found
