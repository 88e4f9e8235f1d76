-- A run of calls of a durable store on a disk, and what is found after a crash in it.
use Rattle.std.specs.Prelude.{◌≡◌, ◌⊎◌, ℕ, suc, ◌<◌, ◌≤◌, List, None, Result}
use Rattle.lfs_types.specs.declared.cleaner.CleanFault.{CleanFault}
use Rattle.lfs_types.specs.declared.store.StoreRefusal.{StoreRefusal}
use Rattle.lfs_segments.specs.Memory.{SegmentMemory}
use Rattle.lfs_parts.specs.declared.parts.Parts.{Parts}
use Rattle.lfs_parts.specs.Files.{content_of}
use Rattle.lfs_durable_store.specs.Runs.{DurableCall, WritesAll, applies, cleans, gains, marks, reads, syncs}
use Rattle.lfs_durable_store.specs.Surviving.{IsFoundIn}
use Rattle.lfs_disk_store.specs.Answering.{ComesTo, FillsFrames, Syncs}
use Rattle.lfs_disk_store.specs.CleanerCalls.{GainsRoom, Reclaims, WritesAgain}
use Rattle.lfs_disk_store.specs.Finding.{FindsBase, FindsOneOf}
use Rattle.lfs_disk_store.specs.Keeping.{OnDisk}

-- from one state to another a call was made, whatever its result
abbrev pub Makes : {D : Type 0} (time : D → ℕ) (left_since : D → ℕ → List (List ℕ) → Type 0) → DurableCall → OnDisk D
    → OnDisk D → Type 0
Makes time left_since reads old new = FillsFrames old new
Makes time left_since (applies by changes) old new =
    (result : Result (Unit {0}) StoreRefusal) × ComesTo time left_since old changes by result new
Makes time left_since syncs old new = Syncs time left_since old new
Makes time left_since (marks infos) old new =
    (result : Result ℕ CleanFault) × WritesAgain time left_since old infos result new
Makes time left_since (cleans segment) old new =
    (result : Result (Unit {0}) CleanFault) × Reclaims old segment result new
Makes time left_since gains old new =
    (result : Result (Unit {0}) CleanFault) × GainsRoom time left_since old result new

-- So many calls were made, from a store on that is its own base.
pub record IsRun {D : Type 0} (time : D → ℕ) (left_since : D → ℕ → List (List ℕ) → Type 0) (states : ℕ → OnDisk D)
    (calls : ℕ → DurableCall) (count : ℕ) : Type 0 where
  pub start : content_of (states 0).store.base ≡ content_of (states 0).store.store
  pub each : (k : ℕ) → k < count → Makes time left_since (calls k) (states k) (states (suc k))

-- The content of a state of the run that is no older than the last Sync, or the last call that writes all besides, among
-- so many calls, by whose beginning the disk hadn't failed; it may be the next one's.
pub record IsOfPrefix {D : Type 0} (states : ℕ → OnDisk D) (calls : ℕ → DurableCall) (count : ℕ)
    (found : Parts) : Type 0 where
  pub calls_made : ℕ
  pub within : calls_made ≤ suc count
  pub synced : (k : ℕ) → k < count → WritesAll (calls k) → (states k).fault ≡ None → k < calls_made
  pub content : content_of found ≡ content_of (states calls_made).store.store

-- After a crash behind so many calls, at rest or at any moment of the next one, which leaves what its clause says, a store on
-- what is found contains what the store contained behind some of these calls: at least those up to the last Sync.
abbrev pub FindsPrefix : {D : Type 0} (time : D → ℕ) (left_since : D → ℕ → List (List ℕ) → Type 0) → Type 0
FindsPrefix {D} time left_since = (states : ℕ → OnDisk D) (calls : ℕ → DurableCall) (count : ℕ)
    (blocks : List (List ℕ)) (n : SegmentMemory) (found : Parts) → IsRun time left_since states calls count
    → FindsBase (states count).store blocks ⊎ FindsOneOf (states count).store (states (suc count)).store blocks
    → n.segments ≡ (states count).store.store.log.memory.segments → n.blocks ≡ blocks → IsFoundIn n found
    → IsOfPrefix states calls count found
