-- An inode block: up to four records, and what a slot is read as.
use Rattle.std.specs.Prelude.{◌≡◌, ◌≤◌, ◌<◌, ℕ, List, Option, Some, None, length, replicate}
use Rattle.std.specs.List.{slice_get}
use Rattle.lfs_inodes.specs.declared.inode.Inode.{Inode}
use Rattle.lfs_inodes.specs.Record.{IsRecord}
use Rattle.lfs_inodes.specs.Slots.{slot_of}

-- a slot is the record of an inode, or zeros where it has none
abbrev pub IsSlot : List ℕ → Option Inode → Type 0
IsSlot bytes (Some v) = IsRecord bytes v
IsSlot bytes None = bytes ≡ replicate 128 0

-- a block of the records of these inodes, in order from slot 0
pub record IsInodeBlock (block : List ℕ) (inodes : List Inode) : Type 0 where
  pub at_most : length inodes ≤ 4
  pub slots : (k : ℕ) → k < 4 → IsSlot (slot_of block k) (slice_get inodes k)
