-- What waits to be written, in the order in which it is written.
use Rattle.std.specs.Prelude.{ℕ, zero, suc, ◌+◌, ◌/◌, ◌++◌, Bool, List, [], All, length, map, replicate, if◌then◌else◌}
use Rattle.std.specs.Prelude.{◌==◌}
use Rattle.std.specs.List.{Contains, filter}
use Rattle.lfs_segments.specs.declared.entry.SummaryEntry.{SummaryEntry}
use Rattle.lfs_cache.specs.declared.key.Key.{Key}
use Rattle.lfs_cache.specs.Contents.{AreApart, Contents, IsLocked, keys_of}
use Rattle.lfs_log.specs.declared.packing.TheConstants.{SLOT_COUNT}
use Rattle.lfs_bmap.specs.declared.tables.TheConstants.{RANKS}
use Rattle.lfs_bmap.specs.Blocks.{block_with, logical_of}
use Rattle.lfs_bmap.specs.Tables.{rank_of}
use Rattle.lfs_parts.specs.declared.parts.Parts.{Parts}
use Rattle.lfs_parts.specs.Opening.{inodes_entry}

-- the block of a key is written in a turn
abbrev pub is_of : ℕ → Key → Bool
is_of turn key = rank_of key.lbn.0 == turn

-- what a summary says of the block of a key
abbrev pub entry_of : Key → SummaryEntry
entry_of key =
    record { number = key.ino; version = key.version; block = logical_of (block_with key.lbn.0) }

-- the keys of the turns below one, turn by turn
unfoldable pub in_turns : ℕ → List Key → List Key
in_turns zero keys = []
in_turns (suc turn) keys = in_turns turn keys ++ filter (is_of turn) keys

-- All turns: an indirect block gets the addresses of the blocks before it, and is written itself then.
abbrev pub in_order : List Key → List Key
in_order keys = in_turns RANKS keys

-- A list of keys has each key that waits, once, and no other.
pub record AreLocked (keys : List Key) (c : Contents) : Type 0 where
  pub each : (key : Key) → IsLocked key c → Contains keys key
  pub only : All (λ (key : Key). IsLocked key c) keys
  pub once : AreApart keys

-- how many blocks so many records take
abbrev pub inode_blocks : ℕ → ℕ
inode_blocks records = (records + 3) / SLOT_COUNT

-- The entries of all that waits: one for each block, and then one for each block of records, which get the addresses of
-- both.
unfoldable pub entries_of : Parts → List SummaryEntry
entries_of p =
    map entry_of (in_order (keys_of p.cache.locked))
    ++ replicate (inode_blocks (length p.waiting)) inodes_entry

-- the blocks that these entries take in the log, with the summary before them; nothing takes none
abbrev pub blocks_of_entries : List SummaryEntry → ℕ
blocks_of_entries entries = if length entries == 0 then 0 else length entries + 1
