-- What the log names at a place: the key whose block or record stands there.
use Rattle.std.specs.Prelude.{ℕ, List, Option, option_map}
use Rattle.lfs_inodes.specs.Reading.{Fields, fields_in}
use Rattle.lfs_inodes.specs.declared.inode.Inode.{Inode}
use Rattle.lfs_inodes.specs.Slots.{slot_of}
use Rattle.lfs_segments.specs.Log.{entry_at}
use Rattle.lfs_segments.specs.Memory.{SegmentMemory, block_at}
use Rattle.lfs_bmap.specs.Log.{Owner}
use Rattle.lfs_bmap.specs.Owners.{owner_at}

-- the number and the version of a record
abbrev pub record_key : Fields → ℕ × ℕ
record_key f = (f.attributes.number, f.attributes.version)

-- and of an inode
abbrev pub inode_key : Inode → ℕ × ℕ
inode_key v = (v.number, v.version)

-- whose record it is
abbrev pub record_owner : Inode → Owner
record_owner v = record { number = v.number; version = v.version; code = 0 }

-- the number and the version of the record in a slot of a block, if one is there
unfoldable pub record_in : List ℕ → ℕ → Option (ℕ × ℕ)
record_in block slot = option_map record_key (fields_in (slot_of block slot))

-- and of the block at an address
abbrev pub record_at : SegmentMemory → ℕ → ℕ → Option (ℕ × ℕ)
record_at m address slot = record_in (block_at m address) slot

-- The owner of a place by the summaries of the log, and in an inode block by the records.
unfoldable pub named_at : SegmentMemory → ℕ → Option Owner
named_at m place = owner_at (entry_at m) (record_at m) place
