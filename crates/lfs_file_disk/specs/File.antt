-- What a file had at first and was told, and what is seen and may be left of it.
use Rattle.std.specs.Prelude.{ℕ, Bool, List, ◌/◌, map}
use Rattle.lfs_types.specs.declared.block.TheConstants.{BLOCK_SIZE}
use Rattle.lfs_disk.specs.declared.calls.Call.{Call}
use Rattle.lfs_disk.specs.declared.calls.Call.TheVariants.{Written, Synced}
use Rattle.lfs_disk.specs.Calls.{left_from, seen_after}
use Rattle.lfs_file_disk.specs.declared.disk.FileDisk.{FileDisk}
use Rattle.lfs_file_disk.specs.declared.told.HostCall.{HostCall}
use Rattle.lfs_file_disk.specs.declared.told.HostCall.TheVariants.{Put, Sync}

-- the call of a disk that a call of the host is: a block stands 512 times its address behind the file's beginning
abbrev pub call_of : HostCall → Call
call_of (Put offset block) = Written (offset / BLOCK_SIZE) block
call_of Sync = Synced

module _ {F : Type 0} (disk : FileDisk F) where
  -- the blocks that the file had at first
  abbrev pub first_blocks : List (List ℕ)
  first_blocks = disk.first.value.items

  -- the calls since
  abbrev pub calls_of : List Call
  calls_of = map call_of disk.host.told.calls

  -- whether one of them failed
  abbrev pub gave_up : Bool
  gave_up = disk.host.has_failed

  abbrev pub seen_of : List (List ℕ)
  seen_of = seen_after first_blocks calls_of

  abbrev pub left_of : List (List ℕ) → Type 0
  left_of = left_from first_blocks calls_of
