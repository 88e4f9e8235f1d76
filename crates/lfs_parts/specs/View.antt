-- What the parts of a store say of a file: its record, the addresses of its blocks, their bytes.
use Rattle.std.specs.Prelude.{ℕ, ◌*◌, ◌<◌, List, [], Option, Some, None, option_and_then}
use Rattle.lfs_types.specs.declared.limits.TheConstants.{SEGMENT_BLOCKS}
use Rattle.lfs_segments.specs.Memory.{SegmentMemory, block_at}
use Rattle.lfs_ifile.specs.declared.inode.InodePlace.{InodePlace}
use Rattle.lfs_ifile.specs.Tables.{row_of, place_of}
use Rattle.lfs_inodes.specs.declared.inode.Inode.{Inode}
use Rattle.lfs_inodes.specs.Addresses.{addresses}
use Rattle.lfs_inodes.specs.Reading.{Fields, fields_of, fields_in}
use Rattle.lfs_inodes.specs.Slots.{slot_of}
use Rattle.lfs_cache.specs.declared.key.Key.{Key}
use Rattle.lfs_cache.specs.Contents.{block_in}
use Rattle.lfs_bmap.specs.Blocks.{IsFileBlock, way_to}
use Rattle.lfs_bmap.specs.Reading.{Tree, address}
use Rattle.lfs_bmap.specs.Ways.{code_at}
use Rattle.lfs_bmap.specs.declared.blocks.FileBlock.{FileBlock}
use Rattle.lfs_parts.specs.declared.parts.Parts.{Parts}
pub use Rattle.lfs_parts.specs.Waiting.{waiting_in}

-- the number of blocks of the volume
abbrev pub blocks_of : Parts → ℕ
blocks_of p = p.log.memory.segments * SEGMENT_BLOCKS

-- the version of a number
abbrev pub version_of : Parts → ℕ → ℕ
version_of p number = (row_of p.log.tables number).version

-- what the slot at a place of the log says
abbrev pub fields_at : SegmentMemory → InodePlace → Option Fields
fields_at m place = fields_in (slot_of (block_at m place.addr) place.slot)

-- the record that waits, if one does, else the one in the log
abbrev pub waiting_or : Option Inode → Option Fields → Option Fields
waiting_or None logged = logged
waiting_or (Some v) logged = Some (fields_of v)

-- The record of a number in use: the one that waits, else the one at its place in the inode map. A number that isn't
-- in use has none.
unfoldable pub record_of : Parts → ℕ → Option Fields
record_of p number =
    option_and_then (λ (place : InodePlace). waiting_or (waiting_in p.waiting number) (fields_at p.log.memory place))
    (place_of p.log.tables number)

-- the name of a block of a file in the cache
abbrev pub key_of : ℕ → ℕ → ℕ → Key
key_of number version code = record { ino = number; version = version; lbn = record { 0 = code } }

-- A file of a number and a version whose record has these addresses. The LOCKED frames are the blocks that wait.
abbrev pub tree_with : Parts → ℕ → ℕ → List ℕ → Tree
tree_with p number version root = record {
  root = root;
  waits = λ way. block_in (key_of number version (code_at way)) p.cache.locked;
  block = λ a. block_at p.log.memory a;
}

-- the file that has a record
abbrev pub tree_from : Parts → Inode → Tree
tree_from p v = tree_with p v.number v.version (addresses v)

-- the addresses of a record, none where there is no record
abbrev pub root_in : Option Fields → List ℕ
root_in None = []
root_in (Some f) = f.addresses

-- the file of a number, as its record and the parts show it
abbrev pub tree_of : Parts → ℕ → Tree
tree_of p number = tree_with p number (version_of p number) (root_in (record_of p number))

-- the blocks of a file lie in the volume
pub record LiesIn (blocks : ℕ) (t : Tree) : Type 0 where
  pub each : (block : FileBlock) → IsFileBlock block → address t (way_to block) < blocks
