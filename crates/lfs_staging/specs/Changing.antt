-- A change of a store's content that waits: what it leaves of the log, and the frames and records that it takes.
use Rattle.std.specs.Prelude.{◌≡◌, ℕ, ◌+◌, ◌-◌, ◌%◌, List, [], ◌∷◌, ◌++◌, length, if◌then◌else◌, ◌==◌, ⊤}
use Rattle.lfs_types.specs.declared.block.TheConstants.{BLOCK_SIZE}
use Rattle.lfs_types.specs.declared.store.Change.{Change}
use Rattle.lfs_types.specs.declared.store.Change.TheVariants.{Make, Remove, SetAttrs, Put, SetLength}
use Rattle.lfs_ifile.specs.Inode.{raised_version}
use Rattle.lfs_inodes.specs.Facts.{block_count}
use Rattle.lfs_bmap.specs.declared.blocks.FileBlock.{FileBlock}
use Rattle.lfs_bmap.specs.declared.blocks.FileBlock.TheVariants.{Data}
use Rattle.lfs_bmap.specs.declared.blocks.TheConstants.{FIRST_DATA_CODE}
use Rattle.lfs_bmap.specs.Blocks.{table_of, way_to}
use Rattle.lfs_bmap.specs.Moves.{Moves}
use Rattle.lfs_bmap.specs.Ways.{codes_on}
use Rattle.lfs_parts.specs.declared.parts.Parts.{Parts}
use Rattle.lfs_parts.specs.Keys.{log_state}
use Rattle.lfs_staging.specs.Putting.{frames_of_put}

-- Nothing was written: the segments' blocks, how each is used and how many are clean are as before; a key has the place
-- that it had, in a number of the same version, or none.
pub record StaysInLog (old new : Parts) : Type 0 where
  pub memory : new.log.memory ≡ old.log.memory
  pub states : new.log.tables.states ≡ old.log.tables.states
  pub clean : new.log.clean ≡ old.log.clean
  pub numbers : length new.log.tables.rows ≡ length old.log.tables.rows
  pub moves : Moves (λ segment. ⊤) (log_state old) (log_state new)

-- The version of a number after a change: the one behind its last where the change makes it, else the one that it had.
abbrev pub version_after : Change → ℕ → ℕ → ℕ
version_after (Make ino attrs) number version = if number == ino then raised_version version
    else version
version_after (Remove ino) number version = version
version_after (SetAttrs ino attrs) number version = version
version_after (Put ino off bytes) number version = version
version_after (SetLength ino len) number version = version

-- the block that holds the address of the last data block of a length
abbrev pub length_table : ℕ → FileBlock
length_table len = table_of (Data (block_count len - 1))

-- the codes of the blocks that a length has wait: that of its last data block, where it ends within it, and those of
-- the blocks that lead to this one
abbrev pub length_codes : ℕ → List ℕ
length_codes len =
    (if len % BLOCK_SIZE == 0 then [] else (FIRST_DATA_CODE + (block_count len - 1)) ∷ [])
    ++ codes_on (way_to (length_table len))

-- the frames that it takes at most
abbrev pub frames_of_length : ℕ → ℕ
frames_of_length len = (if len % BLOCK_SIZE == 0 then 0 else 1) + length (way_to (length_table len))

-- the frames that a change takes at most
abbrev pub frames_of : Change → ℕ
frames_of (Make ino attrs) = 0
frames_of (Remove ino) = 0
frames_of (SetAttrs ino attrs) = 0
frames_of (Put ino off bytes) = if length bytes.now == 0 then 0
    else frames_of_put off (length bytes.now)
frames_of (SetLength ino len) = frames_of_length len

-- the records that it has wait at most
abbrev pub records_of : Change → ℕ
records_of (Make ino attrs) = 1
records_of (Remove ino) = 0
records_of (SetAttrs ino attrs) = 1
records_of (Put ino off bytes) = if length bytes.now == 0 then 0 else 1
records_of (SetLength ino len) = 1
