-- What calls of a durable store on a disk come to, and what a crash leaves meanwhile.
use Rattle.std.specs.Prelude.{◌≡◌, ◌⊎◌, ℕ, List, Result, Err, None, ⊤}
use Rattle.lfs_types.specs.declared.store.Change.{Change}
use Rattle.lfs_types.specs.declared.store.Reserve.{Reserve}
use Rattle.lfs_types.specs.declared.store.StoreRefusal.{StoreRefusal}
use Rattle.lfs_types.specs.declared.store.StoreRefusal.TheVariants.{NoSpace}
use Rattle.lfs_durable.specs.Runs.{IsCounted}
use Rattle.lfs_durable_store.specs.Answering as durable
use Rattle.lfs_disk_store.specs.Finding.{LeavesOne}
use Rattle.lfs_disk_store.specs.Keeping.{IsRefused, KeepsDisk, OnDisk}

-- Clean blocks may have come into the cache, or have gone, and the disk stays.
pub record FillsFrames {D : Type 0} (old new : OnDisk D) : Type 0 where
  pub fills : durable.FillsFrames old.store new.store
  pub disk : KeepsDisk old new

-- The disk hadn't failed, and changes came to what they come to over a durable store. What was written went out to the
-- disk: a crash at any moment of the call leaves what the base contained before it, or what the store contained before
-- it, or what it contains now.
pub record ComesOut {D : Type 0} (time : D → ℕ) (left_since : D → ℕ → List (List ℕ) → Type 0) (old : OnDisk D)
    (changes : List Change) (by : Reserve) (result : Result (Unit {0}) StoreRefusal) (new : OnDisk D) : Type 0 where
  pub sound : old.fault ≡ None
  pub comes : durable.ComesTo old.store changes by result new.store
  pub crash : LeavesOne time left_since (IsCounted comes.before.store) old new

-- so, or the disk had failed, and they were refused
abbrev pub ComesTo : {D : Type 0} (time : D → ℕ) (left_since : D → ℕ → List (List ℕ) → Type 0) → OnDisk D
    → List Change → Reserve → Result (Unit {0}) StoreRefusal → OnDisk D → Type 0
ComesTo time left_since old changes by result new =
    (IsRefused old new × (result ≡ Err NoSpace)) ⊎ ComesOut time left_since old changes by result new

-- The disk hadn't failed. What waited was written, in what the active segment had left, and out to the disk; so is what a
-- crash leaves.
pub record SettlesInPlace {D : Type 0} (time : D → ℕ) (left_since : D → ℕ → List (List ℕ) → Type 0)
    (old new : OnDisk D) : Type 0 where
  pub sound : old.fault ≡ None
  pub settles : durable.SettlesInPlace old.store new.store
  pub crash : LeavesOne time left_since ⊤ old new

-- so, or the disk had failed, and nothing was done
abbrev pub Syncs : {D : Type 0} (time : D → ℕ) (left_since : D → ℕ → List (List ℕ) → Type 0) → OnDisk D → OnDisk D
    → Type 0
Syncs time left_since old new = IsRefused old new ⊎ SettlesInPlace time left_since old new
