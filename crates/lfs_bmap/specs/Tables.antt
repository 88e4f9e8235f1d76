-- How late a block is written, and which indirect blocks lead to some data blocks.
use Rattle.std.specs.Prelude.{ℕ, ◌+◌, ◌-◌, if◌then◌else◌, length, nat_le}
use Rattle.lfs_bmap.specs.declared.blocks.FileBlock.TheVariants.{Data}
use Rattle.lfs_bmap.specs.Blocks.{code_of, table_of, way_to}
use Rattle.lfs_bmap.specs.declared.blocks.TheConstants.{FIRST_CHILD_CODE, FIRST_DATA_CODE}

-- In which turn the block with a code is written: data blocks in the first one, then the children of a double indirect
-- block, then the other indirect blocks. Each is written before what holds its address.
unfoldable pub rank_of : ℕ → ℕ
rank_of code = if nat_le FIRST_DATA_CODE code then 0 else (if nat_le FIRST_CHILD_CODE code then 1 else 2)

-- How many indirect blocks lead to the data blocks from one to another: those with codes behind the first one's holder
-- up to the last one's, and those on the way to the first one's.
abbrev pub tables_between : ℕ → ℕ → ℕ
tables_between first last =
    code_of (table_of (Data last)) - code_of (table_of (Data first)) + length (way_to (table_of (Data first)))
