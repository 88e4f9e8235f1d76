-- A run of calls of a durable store, in any order, and what is found after a crash in it.
use Rattle.std.specs.Prelude.{◌≡◌, ℕ, suc, ◌<◌, ◌≤◌, ◌⊎◌, List, Result, ⊤}
use Rattle.lfs_types.specs.declared.cleaner.BlockInfo.{BlockInfo}
use Rattle.lfs_types.specs.declared.cleaner.CleanFault.{CleanFault}
use Rattle.lfs_types.specs.declared.store.Change.{Change}
use Rattle.lfs_types.specs.declared.store.Reserve.{Reserve}
use Rattle.lfs_types.specs.declared.store.StoreRefusal.{StoreRefusal}
use Rattle.lfs_segments.specs.Memory.{SegmentMemory}
use Rattle.lfs_parts.specs.declared.parts.Parts.{Parts}
use Rattle.lfs_parts.specs.Files.{content_of}
use Rattle.lfs_durable.specs.Runs.{IsCounted, ShowsTree}
use Rattle.lfs_durable_store.specs.Answering.{ComesTo, FillsFrames, Settles}
use Rattle.lfs_durable_store.specs.CleanerCalls.{GainsRoom, Reclaims, WritesAgain}
use Rattle.lfs_durable_store.specs.Keeping.{Durably, IsKept}
use Rattle.lfs_durable_store.specs.Surviving.{IsCutShort, IsFoundIn, IsInLaterFlush}

-- a call of a durable store that may leave it changed
pub data DurableCall : Type 0 where
  reads : DurableCall
  applies : Reserve → List Change → DurableCall
  syncs : DurableCall
  marks : List BlockInfo → DurableCall
  cleans : ℕ → DurableCall
  gains : DurableCall

-- from one state to another a call was made, whatever its result
abbrev pub Makes : DurableCall → Durably → Durably → Type 0
Makes reads old new = FillsFrames old new
Makes (applies by changes) old new = (result : Result (Unit {0}) StoreRefusal) × ComesTo old changes by result new
Makes syncs old new = Settles old.store new
Makes (marks infos) old new = (result : Result ℕ CleanFault) × WritesAgain old infos result new
Makes (cleans segment) old new = (result : Result (Unit {0}) CleanFault) × Reclaims old segment result new
Makes gains old new = (result : Result (Unit {0}) CleanFault) × GainsRoom old result new

-- a call that leaves nothing waiting
abbrev pub WritesAll : DurableCall → Type 0
WritesAll reads = ⊥
WritesAll (applies by changes) = ⊥
WritesAll syncs = ⊤
WritesAll (marks infos) = ⊤
WritesAll (cleans segment) = ⊥
WritesAll gains = ⊤

-- So many calls were made, from a store on that is its own base: each state is a durable store's, shows a tree, and has
-- serials left.
pub record IsRun (states : ℕ → Durably) (calls : ℕ → DurableCall) (count : ℕ) : Type 0 where
  pub start : content_of (states 0).base ≡ content_of (states 0).store
  pub each : (k : ℕ) → k < count → Makes (calls k) (states k) (states (suc k))
  pub kept : (k : ℕ) → k ≤ count → IsKept (states k)
  pub counted : (k : ℕ) → k ≤ count → IsCounted (states k).store
  pub trees : (k : ℕ) → k ≤ count → ShowsTree (states k).store

-- the content of a state of the run that is no older than the last Sync, or the last call that writes all besides
pub record IsOfPrefix (states : ℕ → Durably) (calls : ℕ → DurableCall) (count : ℕ) (found : Parts) : Type 0 where
  pub calls_made : ℕ
  pub within : calls_made ≤ count
  pub synced : (k : ℕ) → k < count → WritesAll (calls k) → k < calls_made
  pub content : content_of found ≡ content_of (states calls_made).store

-- After a crash behind so many calls, at rest, in the flush of what waits or in a later one of the next call, a store on what
-- is found contains what the store contained behind some of these calls: at least those up to the last Sync.
abbrev pub FindsPrefix : Type 0
FindsPrefix = (states : ℕ → Durably) (calls : ℕ → DurableCall) (count : ℕ) (n : SegmentMemory) (found : Parts)
    → IsRun states calls count → IsCutShort (states count) n ⊎ IsInLaterFlush (states count) n → IsFoundIn n found
    → IsOfPrefix states calls count found
