-- The blocks of a file as a caller names them, with their codes and ways.
use Rattle.std.specs.Prelude.{ℕ, zero, suc, ◌+◌, ◌-◌, ◌*◌, ◌/◌, ◌<◌, List, [], ◌∷◌, if◌then◌else◌, ◌==◌, nat_lt, ⊤}
use Rattle.lfs_types.specs.declared.limits.TheConstants.{FILE_BLOCKS}
use Rattle.lfs_segments.specs.declared.entry.LogicalBlock.{LogicalBlock}
use Rattle.lfs_segments.specs.declared.entry.LogicalBlock.TheVariants as logical
use Rattle.lfs_bmap.specs.declared.blocks.FileBlock.{FileBlock}
use Rattle.lfs_bmap.specs.declared.blocks.FileBlock.TheVariants.{Record, Single, Double, Child, Data}
use Rattle.lfs_bmap.specs.declared.blocks.TheConstants.{DIRECT_BLOCKS, FIRST_CHILD_CODE, FIRST_DATA_CODE, TABLE_CELLS}
use Rattle.lfs_bmap.specs.Ways.{data_way}
use Rattle.lfs_inodes.specs.declared.inode.TheConstants.{ROOT_COUNT, SINGLE_END}

-- a block that a file can have
abbrev pub IsFileBlock : FileBlock → Type 0
IsFileBlock Record = ⊤
IsFileBlock Single = ⊤
IsFileBlock Double = ⊤
IsFileBlock (Child index) = index < TABLE_CELLS
IsFileBlock (Data index) = index < FILE_BLOCKS

-- a block that holds addresses, and a place among them
abbrev pub IsTable : FileBlock → ℕ → Type 0
IsTable Record place = place < ROOT_COUNT
IsTable Single place = place < TABLE_CELLS
IsTable Double place = place < TABLE_CELLS
IsTable (Child index) place = place < TABLE_CELLS
IsTable (Data index) place = ⊥

-- its code
abbrev pub code_of : FileBlock → ℕ
code_of Record = 0
code_of Single = 1
code_of Double = 2
code_of (Child index) = FIRST_CHILD_CODE + index
code_of (Data index) = FIRST_DATA_CODE + index

-- the block with a code
unfoldable pub block_with : ℕ → FileBlock
block_with code =
    if code == 0 then Record
    else (if code == 1 then Single
    else (if code == 2 then Double
    else (if nat_lt code FIRST_DATA_CODE then Child (code - FIRST_CHILD_CODE) else Data (code - FIRST_DATA_CODE))))

-- the way to it
abbrev pub way_to : FileBlock → List ℕ
way_to Record = []
way_to Single = 12 ∷ []
way_to Double = 13 ∷ []
way_to (Child index) = index ∷ 13 ∷ []
way_to (Data index) = data_way index

-- The indirect block that holds the addresses of the 128 data blocks from 12 + 128 * index on: the single one, then the
-- children of the double one in turn.
abbrev pub table_at : ℕ → FileBlock
table_at zero = Single
table_at (suc index) = Child index

-- The block that holds its address. The record's place is in the inode map; here it is its own.
abbrev pub table_of : FileBlock → FileBlock
table_of Record = Record
table_of Single = Record
table_of Double = Record
table_of (Child index) = Double
table_of (Data index) = if nat_lt index DIRECT_BLOCKS then Record else table_at ((index - DIRECT_BLOCKS) / TABLE_CELLS)

-- the first data block that it leads to
abbrev pub first_under : FileBlock → ℕ
first_under Record = 0
first_under Single = DIRECT_BLOCKS
first_under Double = SINGLE_END
first_under (Child index) = SINGLE_END + TABLE_CELLS * index
first_under (Data index) = index

-- what names it in a summary
abbrev pub logical_of : FileBlock → LogicalBlock
logical_of Record = logical.Inodes
logical_of Single = logical.Single
logical_of Double = logical.Double
logical_of (Child index) = logical.Child index
logical_of (Data index) = logical.Data index

-- the block that is named so
abbrev pub file_block_of : LogicalBlock → FileBlock
file_block_of logical.Inodes = Record
file_block_of logical.Single = Single
file_block_of logical.Double = Double
file_block_of (logical.Child index) = Child index
file_block_of (logical.Data index) = Data index
