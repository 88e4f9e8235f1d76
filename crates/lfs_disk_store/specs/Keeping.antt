-- A durable store on a disk, and what it keeps of it.
use Rattle.std.specs.Prelude.{◌≡◌, Bool, true, List, ℕ, Option, None, IsSome}
use Rattle.lfs_types.specs.StoreStates.{StoreState}
use Rattle.lfs_disk.specs.declared.fault.DiskFault.{DiskFault}
use Rattle.lfs_disk.specs.declared.mirror.Mirror.{Mirror}
use Rattle.lfs_disk.specs.Mirroring.{FollowsOn, IsBlankBehind, IsMirror, disk_of, memory_of}
use Rattle.lfs_durable_store.specs.Keeping.{Durably, IsSettled, durable_state}

-- a durable store, the disk that its blocks go out to, and the first fault of that disk, if any
pub record OnDisk (D : Type 0) : Type 0 where
  pub store : Durably
  pub disk : D
  pub fault : Option DiskFault

-- the same, of a mirror's disk
abbrev pub on_disk : {D : Type 0} → Durably → Mirror D → Option DiskFault → OnDisk D
on_disk store mirror fault = record { store = store; disk = disk_of mirror; fault = fault }

-- the mirror has the store's memory
pub record IsWritten {D : Type 0} (seen : D → List (List ℕ)) (may_leave : D → List (List ℕ) → Type 0)
    (store : Durably) (mirror : Mirror D) : Type 0 where
  pub mirrors : IsMirror seen may_leave mirror
  pub memory : memory_of mirror ≡ store.store.log.memory

-- So it is without a fault; and a fault is the disk's.
pub record IsFollowed {D : Type 0} (seen : D → List (List ℕ)) (may_leave : D → List (List ℕ) → Type 0)
    (has_failed : D → Bool) (store : Durably) (mirror : Mirror D) (fault : Option DiskFault) : Type 0 where
  pub written : fault ≡ None → IsWritten seen may_leave store mirror
  pub failed : IsSome fault → has_failed (disk_of mirror) ≡ true

-- the store's memory went on from the mirror's, so that it can be written out
pub record IsAhead {D : Type 0} (seen : D → List (List ℕ)) (may_leave : D → List (List ℕ) → Type 0)
    (store : Durably) (mirror : Mirror D) : Type 0 where
  pub mirrors : IsMirror seen may_leave mirror
  pub blank : IsBlankBehind (memory_of mirror)
  pub follows : FollowsOn (memory_of mirror) store.store.log.memory

-- Its state is the durable store's. It is one that may refuse growth at any time, as a store with a share: so it can refuse
-- where its disk has failed.
abbrev pub disk_state : {D : Type 0} → OnDisk D → StoreState
disk_state s = let state = durable_state s.store in record state { shape = record state.shape { has_share = true } }

-- nothing waits, and all is on the disk, which has not failed
pub record IsOnDisk {D : Type 0} (s : OnDisk D) : Type 0 where
  pub settled : IsSettled s.store
  pub sound : s.fault ≡ None

-- The disk had failed before a call, which did nothing.
pub record IsRefused {D : Type 0} (old new : OnDisk D) : Type 0 where
  pub failed : IsSome old.fault
  pub same : new ≡ old

-- nothing was written, since nothing was to be
pub record KeepsDisk {D : Type 0} (old new : OnDisk D) : Type 0 where
  pub disk : new.disk ≡ old.disk
  pub fault : new.fault ≡ old.fault
