-- The infos of a segment: which blocks and inodes its log names, and where they lie.
use Rattle.std.specs.Prelude.{◌≡◌, ℕ, ◌-◌, ◌/◌, List, [], ◌∷◌, Option, Some, option_map}
use Rattle.std.specs.List.{Contains, filter_map, flat_map}
use Rattle.lfs_inodes.specs.Slots.{slots}
use Rattle.lfs_inodes.specs.Reading.{fields_in}
use Rattle.lfs_segments.specs.declared.entry.LogicalBlock.{LogicalBlock}
use Rattle.lfs_segments.specs.declared.entry.LogicalBlock.TheVariants.{Data, Single, Double, Child, Inodes}
use Rattle.lfs_segments.specs.declared.entry.SummaryEntry.{SummaryEntry}
use Rattle.lfs_segments.specs.Entry.{block_number}
use Rattle.lfs_segments.specs.Log.{first_of, names_from}
use Rattle.lfs_segments.specs.Memory.{SegmentMemory, block_at, log_start}
use Rattle.lfs_types.specs.declared.cleaner.BlockInfo.{BlockInfo}
use Rattle.lfs_bmap.specs.declared.blocks.FileBlock.{FileBlock}
use Rattle.lfs_bmap.specs.Blocks.{code_of, logical_of}
use Rattle.lfs_bmap.specs.Counting.{seg_of}
use Rattle.lfs_bmap.specs.Log.{Owner}
use Rattle.lfs_log.specs.Names.{named_at}
use Rattle.lfs_types.specs.declared.limits.TheConstants.{SEGMENT_BLOCKS}

-- the info of a file's block at an address
abbrev pub info_of : ℕ → ℕ → ℕ → LogicalBlock → BlockInfo
info_of address number version block = record {
  ino = number;
  version = version;
  lbn = block_number block;
  addr = address;
}

-- that of the inode whose record a slot of an inode block holds, if it holds one
unfoldable pub slot_info : ℕ → List ℕ → Option BlockInfo
slot_info address slot = option_map (λ f. info_of address f.attributes.number f.attributes.version Inodes)
    (fields_in slot)

-- the infos of a block that the log names: one of a file's block, and one for each record of an inode block
unfoldable pub block_infos : ℕ → ℕ → ℕ → LogicalBlock → List ℕ → List BlockInfo
block_infos address number version (Data index) block = info_of address number version (Data index) ∷ []
block_infos address number version Single block = info_of address number version Single ∷ []
block_infos address number version Double block = info_of address number version Double ∷ []
block_infos address number version (Child index) block = info_of address number version (Child index) ∷ []
block_infos address number version Inodes block = filter_map (slot_info address) (slots block)

-- those of a name: an address with its entry
unfoldable pub entry_infos : SegmentMemory → ℕ × SummaryEntry → List BlockInfo
entry_infos m named = block_infos named.0 named.1.number named.1.version named.1.block (block_at m named.0)

-- those of the names of a run of addresses
abbrev pub infos_from : SegmentMemory → ℕ → ℕ → List BlockInfo
infos_from m first count = flat_map (entry_infos m) (names_from m first count)

-- The infos of all that the log of a segment names, in order.
unfoldable pub infos_of : SegmentMemory → ℕ → List BlockInfo
infos_of m segment = infos_from m (first_of segment) (SEGMENT_BLOCKS - log_start segment)

-- A list has the info of an owner whose block, or the block of whose record, has this address.
pub record HasInfo (infos : List BlockInfo) (address : ℕ) (o : Owner) : Type 0 where
  pub block : FileBlock
  pub code : code_of block ≡ o.code
  pub there : Contains infos (info_of address o.number o.version (logical_of block))

-- An info is that of the owner whom the log names at a place of a segment.
pub record IsInfoOf (m : SegmentMemory) (segment : ℕ) (i : BlockInfo) : Type 0 where
  pub place : ℕ
  pub owner : Owner
  pub block : FileBlock
  pub here : seg_of place ≡ segment
  pub named : named_at m place ≡ Some owner
  pub code : code_of block ≡ owner.code
  pub same : info_of (place / 4) owner.number owner.version (logical_of block) ≡ i
