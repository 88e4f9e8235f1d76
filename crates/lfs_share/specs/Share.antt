-- How much the files of a volume may take, so that a segment is always worth cleaning. Counted are units of 128 bytes: a
-- record takes one, a block four.
use Rattle.std.specs.Prelude.{◌≡◌, ◌⊎◌, ℕ, ◌+◌, ◌-◌, ◌*◌, ◌/◌, ◌<◌, ◌≤◌, nat_lt, if◌then◌else◌, Option, None, Some, length}
use Rattle.std.specs.FinMap as map
use Rattle.lfs_types.specs.StoreStates.{StoreState}
use Rattle.lfs_types.specs.Tree.{Content, File}
use Rattle.lfs_inodes.specs.Facts.{block_count}
use Rattle.lfs_inodes.specs.declared.inode.TheConstants.{SINGLE_END}
use Rattle.lfs_segments.specs.Memory.{room_of}
use Rattle.lfs_log.specs.Parts.{live_of}
use Rattle.lfs_bmap.specs.Counting.{total}
use Rattle.lfs_bmap.specs.declared.blocks.TheConstants.{DIRECT_BLOCKS, TABLE_CELLS}
use Rattle.lfs_parts.specs.declared.parts.Parts.{Parts}
use Rattle.lfs_segwrite.specs.Applying.{waiting_blocks}
use Rattle.lfs_share.specs.declared.taking.TheConstants.{LOW_UNITS}

-- the indirect blocks that lead to so many data blocks at most: the single one, the double one and its children
abbrev pub tables_of : ℕ → ℕ
tables_of blocks =
    if nat_lt SINGLE_END blocks then 2 + (blocks - SINGLE_END + 127) / TABLE_CELLS
    else (if nat_lt DIRECT_BLOCKS blocks then 1 else 0)

-- what a file of a length takes at most: its record, its blocks and what leads to them
abbrev pub units_of_length : ℕ → ℕ
units_of_length len = 1 + 4 * (block_count len + tables_of (block_count len))

-- what a file takes at most
abbrev pub units_of_file : Option File → ℕ
units_of_file None = 0
units_of_file (Some f) = units_of_length (length f.bytes)

-- what all files of a content take at most
abbrev pub taken : ℕ → Content → ℕ
taken numbers c = total (λ n. units_of_file (map.get c n)) numbers

-- the share of a volume of so many segments: three of them apart, LOW_UNITS for each
abbrev pub share_of : ℕ → ℕ
share_of segments = LOW_UNITS * (segments - 3)

-- the files take no more than the share of the volume
abbrev pub IsWithinShare : StoreState → Type 0
IsWithinShare s = taken s.shape.numbers s.content ≤ share_of s.shape.segments

-- A segment stays clean once what waits is written: another one is clean, or it fits the active one.
abbrev pub KeepsOne : Parts → Type 0
KeepsOne p = (1 < p.log.clean) ⊎ ((0 < p.log.clean) × (waiting_blocks p ≤ room_of p.log.memory))

-- the live bytes of all segments
abbrev pub live_total : Parts → ℕ
live_total p = total (live_of p.log.tables) p.log.memory.segments

-- Why room can't be made again: no segment is clean, or more bytes are live than those of the share.
abbrev pub LacksShare : Parts → Type 0
LacksShare p = (p.log.clean ≡ 0) ⊎ (128 * share_of p.log.memory.segments < live_total p)
