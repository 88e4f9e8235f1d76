-- How a store stands on a disk's file, and why none does.
use Rattle.std.specs.Prelude.{◌≡◌, ℕ, Bool, true, false, List, length, None, Some, ⊤}
use Rattle.lfs_types.specs.declared.store.Params.{Params}
use Rattle.lfs_parts.specs.Opening.{IsOpeningWith}
use Rattle.lfs_logstore.specs.States.{opening_state, state_of}
use Rattle.lfs_disk.specs.Calls.{LeftSince}
use Rattle.lfs_disk.specs.Disk.{LeavesOnly, Only}
use Rattle.lfs_durable_store.specs.Keeping.{Durably, settled}
use Rattle.lfs_disk_store.specs.Keeping.{OnDisk}
use Rattle.lfs_disk_store.specs.Layout.{IsFormatFault}
use Rattle.lfs_file_disk.specs.declared.disk.FileDisk.{FileDisk}
use Rattle.lfs_file_disk.specs.File.{calls_of, first_blocks, left_of, seen_of}
use Rattle.lfs_disk_start.specs.declared.fault.StartFault.{StartFault}
use Rattle.lfs_disk_start.specs.declared.fault.StartFault.TheVariants.{Disk, File, Format, Length, Lost, Recovery}
use Rattle.lfs_disk_start.specs.Finding.{IsFindFaultOf, IsFoundOf, IsOnTheWayBack, memory_of}

-- a store was just laid out by these parameters, with serials
pub record IsLaidOutBy (params : Params) (s : Durably) : Type 0 where
  pub laid_out : IsOpeningWith (Some 1) params.segments params.inodes params.frames s.store
  pub opening : state_of s.store ≡ opening_state params.segments params.inodes

-- A store was found on a disk, which had these blocks first. A crash since leaves them, or some of those of the store
-- in their place.
pub record IsFoundOn {D : Type 0} (seen : D → List (List ℕ)) (may_leave : D → List (List ℕ) → Type 0) (time : D → ℕ)
    (left_since : D → ℕ → List (List ℕ) → Type 0) (frames : ℕ) (s : OnDisk D) : Type 0 where
  pub first : D
  pub synced : Only (seen first) (may_leave first)
  pub found : IsFoundOf (memory_of (seen first)) frames s.store.store
  pub crash : LeavesOnly time left_since first s.disk (IsOnTheWayBack (seen first) frames)

-- Nothing waits in a store, and its disk has not failed. It was made by these parameters, or found on its disk.
pub record IsStarted {D : Type 0} (seen : D → List (List ℕ)) (may_leave : D → List (List ℕ) → Type 0) (time : D → ℕ)
    (left_since : D → ℕ → List (List ℕ) → Type 0) (params : Params) (is_found : Bool) (s : OnDisk D) : Type 0 where
  pub sound : s.fault ≡ None
  pub own : s.store ≡ settled false s.store.store
  pub made : is_found ≡ false → IsLaidOutBy params s.store
  pub found : is_found ≡ true → IsFoundOn seen may_leave time left_since params.frames s

-- so on a file
abbrev pub IsStartedOn : {F : Type 0} → Params → Bool → OnDisk (FileDisk F) → Type 0
IsStartedOn params is_found s =
    IsStarted seen_of left_of (λ d. length (calls_of d)) (λ d. LeftSince (first_blocks d) (calls_of d)) params is_found s

-- what a fault says of the parameters, and of blocks that were read from a file; of a file nothing is known
abbrev pub IsStartFaultOf : Params → StartFault → Type 0
IsStartFaultOf params (File fault) = ⊤
IsStartFaultOf params (Format fault) = IsFormatFault params.segments params.inodes params.frames fault
IsStartFaultOf params Length = (blocks : List (List ℕ)) × IsFindFaultOf (memory_of blocks) false Length
IsStartFaultOf params (Recovery fault) = (blocks : List (List ℕ)) × IsFindFaultOf (memory_of blocks) false (Recovery fault)
IsStartFaultOf params Lost = (blocks : List (List ℕ)) × IsFindFaultOf (memory_of blocks) false Lost
IsStartFaultOf params (Disk fault) = ⊤
