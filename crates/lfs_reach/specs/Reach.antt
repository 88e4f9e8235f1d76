-- Which numbers names lead to, by the records that a table tells of and the blocks of a memory.
use Rattle.std.specs.Prelude.{◌≡◌, ℕ, ◌-◌, ◌*◌, ◌/◌, ◌%◌, ◌<◌, ◌==◌, nat_lt, if◌then◌else◌, List, Option, Some, None}
use Rattle.std.specs.Prelude.{slice_index, slice_index_or}
use Rattle.std.specs.List.{Contains}
use Rattle.lfs_types.specs.declared.attrs.Kind.TheVariants.{Directory}
use Rattle.lfs_types.specs.declared.limits.TheConstants.{ROOT_INODE, SEGMENT_BLOCKS}
use Rattle.lfs_types.specs.Blocks.{zero_block}
use Rattle.lfs_types.specs.Ranges.{most_inodes}
use Rattle.lfs_inodes.specs.declared.inode.TheConstants.{DIRECT_COUNT, DOUBLE_PLACE, ENTRY_COUNT, SINGLE_END}
use Rattle.lfs_inodes.specs.Addresses.{cells}
use Rattle.lfs_inodes.specs.Facts.{block_count}
use Rattle.lfs_inodes.specs.Reading.{Fields, fields_in}
use Rattle.lfs_inodes.specs.Slots.{slot_of}
use Rattle.lfs_segments.specs.Memory.{SegmentMemory, block_at}
use Rattle.lfs_dirs.specs.Directory.{Entry}
use Rattle.lfs_dirs.specs.Reading.{entries_of}
use Rattle.lfs_recovery.specs.declared.places.RecordPlace.{RecordPlace}

-- the bytes of a block: zeros where the address is 0, which is none, or past the end
unfoldable pub bytes_at : SegmentMemory → ℕ → List ℕ
bytes_at m address =
    if address == 0 then zero_block
    else (if nat_lt address (m.segments * SEGMENT_BLOCKS) then block_at m address else zero_block)

-- the address of block n of a file: the record has those of blocks 0 to 11, the single indirect block those of blocks 12
-- to 139, and each child of the double one those of 128 more
unfoldable pub file_address : SegmentMemory → Fields → ℕ → ℕ
file_address m f n =
    if nat_lt n DIRECT_COUNT then slice_index f.addresses n
    else (if nat_lt n SINGLE_END
    then slice_index (cells (bytes_at m (slice_index f.addresses DIRECT_COUNT))) (n - DIRECT_COUNT)
    else (let double = bytes_at m (slice_index f.addresses DOUBLE_PLACE) in
    let child = bytes_at m (slice_index (cells double) ((n - SINGLE_END) / ENTRY_COUNT)) in
    slice_index (cells child) ((n - SINGLE_END) % ENTRY_COUNT)))

-- the record that stands at a place
unfoldable pub record_of : SegmentMemory → Option RecordPlace → Option Fields
record_of m None = None
record_of m (Some place) =
    if nat_lt place.slot 4 then fields_in (slot_of (bytes_at m place.address) place.slot) else None

-- entries list a number of a volume
pub record IsListed (es : List Entry) (number : ℕ) : Type 0 where
  pub name : List ℕ
  pub there : Contains es (number, name)
  pub below : number < most_inodes

-- the record at a place is a directory's, and one of its blocks lists a number
pub record IsNamedBy (m : SegmentMemory) (place : Option RecordPlace) (number : ℕ) : Type 0 where
  pub fields : Fields
  pub read : record_of m place ≡ Some fields
  pub directory : fields.attributes.kind ≡ Directory
  pub index : ℕ
  pub within : index < block_count fields.attributes.size
  pub listed : IsListed (entries_of (bytes_at m (file_address m fields index))) number

-- names lead to a number: it is the root, or the record of a number that names lead to names it
pub data Reaches (m : SegmentMemory) (places : List (Option RecordPlace)) : ℕ → Type 0 where
  begins : Reaches m places ROOT_INODE
  goes : (directory number : ℕ) → Reaches m places directory
      → IsNamedBy m (slice_index_or places directory None) number → Reaches m places number
