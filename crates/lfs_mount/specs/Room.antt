-- The room of a volume, as the kernel is told it: in blocks of 512 bytes, and in inode numbers.
use Rattle.std.specs.Prelude.{◌≡◌, ℕ, zero, suc, ◌+◌, ◌-◌, ◌*◌, max, min, Option, None, Some}
use Rattle.lfs_types.specs.StoreStates.{StoreState}
use Rattle.lfs_types.specs.Stored.{shown_attrs}
use Rattle.lfs_types.specs.Tree.{Content}
use Rattle.lfs_types.specs.declared.attrs.Attrs.{Attrs}
use Rattle.lfs_fuse_wire.specs.declared.init.Init.{Init}
use Rattle.lfs_fuse_reply.specs.declared.reply.InitReply.{InitReply}
use Rattle.lfs_fuse_reply.specs.declared.reply.Statfs.{Statfs}
use Rattle.lfs_fuse_calls.specs.Attrs.{blocks_told}
use Rattle.lfs_fuse_calls.specs.declared.told.Told.{Told}
use Rattle.lfs_fuse_calls.specs.declared.told.Told.TheVariants as told
use Rattle.lfs_mount.specs.declared.mount.Sizes.{Sizes}
use Rattle.std.specs.Int.RustNames.{bit_and}

-- the blocks that the bytes of a file take, if there is one
abbrev pub blocks_of : Option Attrs → ℕ
blocks_of None = 0
blocks_of (Some attrs) = blocks_told attrs.size

-- 1 of a number in use, else 0
abbrev pub one_used : Option Attrs → ℕ
one_used None = 0
one_used (Some attrs) = 1

-- sums end at the largest number
abbrev pub plus : ℕ → ℕ → ℕ
plus a b = min (a + b) 0xFFFF_FFFF_FFFF_FFFF

-- how many blocks the files of the first n numbers take
unfoldable pub taken_below : Content → ℕ → ℕ
taken_below content zero = 0
taken_below content (suc n) = plus (taken_below content n) (blocks_of (shown_attrs content n))

-- how many of the first n numbers are in use
unfoldable pub used_below : Content → ℕ → ℕ
used_below content zero = 0
used_below content (suc n) = plus (used_below content n) (one_used (shown_attrs content n))

-- A segment has 64 blocks. Free are those of the clean segments, or those that no file's bytes take, whichever are
-- more: the cleaner finds room that was given back, and a gap in a file takes none. Users may have no blocks of the
-- last two segments. Of the numbers the root has one, and files those from 4 up.
abbrev pub room_of : Sizes → StoreState → Statfs
room_of sizes state =
    let taken = taken_below state.content sizes.inodes in
    let free = max (state.clean * 64) (sizes.segments * 64 - taken) in
    record {
      blocks = sizes.segments * 64;
      free_blocks = free;
      available_blocks = free - 128;
      files = sizes.inodes - 3;
      free_files = sizes.inodes - 3 - used_below state.content sizes.inodes;
      block_size = 512;
      max_name = 255;
    }

abbrev pub IsRoom : Sizes → StoreState → Told → Type 0
IsRoom sizes state (told.Statfs room) = room ≡ room_of sizes state
IsRoom sizes state reply = ⊥

-- What a kernel is told at the beginning: the protocol's version 7.38; of its offer larger writes, O_TRUNC in OPEN,
-- control calls of directories, set-id bits as the volume's matter, messages of 32 pages and mmap beside direct I/O; and
-- at most 131,072 bytes by one message.
abbrev pub init_told : Init → InitReply
init_told init = record {
  major = 7;
  minor = 38;
  max_readahead = min init.max_readahead 131072;
  flags = record { 0 = bit_and init.flags.0 0x1040480828 };
  max_background = 12;
  congestion_threshold = 9;
  max_write = 131072;
  time_granularity = 1;
  max_pages = 32;
}
