-- What a disk in memory had at first and was told, and what is seen and may be left of it.
use Rattle.std.specs.Prelude.{ℕ, Bool, List}
use Rattle.lfs_disk.specs.declared.calls.Call.{Call}
use Rattle.lfs_disk.specs.declared.memory.MemoryDisk.{MemoryDisk}
use Rattle.lfs_disk.specs.Calls.{left_from, seen_after}

abbrev pub first_blocks : MemoryDisk → List (List ℕ)
first_blocks disk = disk.first.items

abbrev pub calls_of : MemoryDisk → List Call
calls_of disk = disk.calls.items

-- whether it had no memory for a call
abbrev pub gave_up : MemoryDisk → Bool
gave_up disk = disk.has_failed

abbrev pub seen_of : MemoryDisk → List (List ℕ)
seen_of disk = seen_after (first_blocks disk) (calls_of disk)

abbrev pub left_of : MemoryDisk → List (List ℕ) → Type 0
left_of disk = left_from (first_blocks disk) (calls_of disk)
