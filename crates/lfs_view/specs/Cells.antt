-- What stands at each address of the log, and whether it is of use.
use Rattle.std.specs.Prelude.{ℕ, zero, suc, ◌+◌, ◌*◌, ◌/◌, ◌<◌, ◌==◌, ◌&&◌, Bool, false, List, [], ◌∷◌, ◌++◌, length}
use Rattle.std.specs.Prelude.{Option, None, Some, option_map, if◌then◌else◌}
use Rattle.lfs_types.specs.declared.limits.TheConstants.{SEGMENT_BLOCKS}
use Rattle.lfs_segments.specs.declared.entry.LogicalBlock.{LogicalBlock}
use Rattle.lfs_segments.specs.declared.entry.LogicalBlock.TheVariants.{Data, Single, Double, Child, Inodes}
use Rattle.lfs_segments.specs.declared.entry.SummaryEntry.{SummaryEntry}
use Rattle.lfs_segments.specs.Entry.{block_number}
use Rattle.lfs_segments.specs.Log.{expected_at}
use Rattle.lfs_segments.specs.Memory.{block_at, has_serials}
use Rattle.lfs_segments.specs.Serial.{entries_in}
use Rattle.lfs_ifile.specs.declared.inode.InodePlace.{InodePlace}
use Rattle.lfs_ifile.specs.Tables.{place_of}
use Rattle.lfs_log.specs.Names.{record_at}
use Rattle.lfs_parts.specs.declared.parts.Parts.{Parts}
use Rattle.lfs_segwrite.specs.Marking.{code_named}
use Rattle.lfs_logstore.specs.Cleaning.{address_of}
use Rattle.lfs_view.specs.declared.cells.Cell.{Cell}
use Rattle.lfs_view.specs.declared.cells.Kind.{Kind}
use Rattle.lfs_view.specs.declared.cells.Kind.TheVariants.{Label, Summary, Block, Records, Unwritten}
use Rattle.lfs_view.specs.declared.life.Life.{Life}
use Rattle.lfs_view.specs.declared.life.Life.TheVariants.{Live, Partly, Dead}
use Rattle.lfs_view.specs.declared.records.LoggedRecord.{LoggedRecord}
use Rattle.lfs_view.specs.declared.walk.Standing.{Standing}
use Rattle.lfs_view.specs.declared.walk.Standing.TheVariants as standing

-- behind a partial segment: the next one's summary, or the end of the log
abbrev pub begun : Option (List SummaryEntry) → Standing
begun None = standing.Unwritten
begun (Some entries) = standing.Summary (length entries)

-- What stands where the log expects the blocks of these entries, and then a summary, with a serial or without one; none
-- behind its end.
abbrev pub standing_at : Bool → Option (List SummaryEntry) → List ℕ → Standing
standing_at serials None block = standing.Unwritten
standing_at serials (Some []) block = begun (entries_in serials block)
standing_at serials (Some (e ∷ more)) block = standing.Named e

-- the present address of the block of a file that is named so, as the cleaner is told it: 0 where it has none
abbrev pub present : Parts → ℕ → ℕ → LogicalBlock → ℕ
present p number version block = address_of p number version (code_named (block_number block))

-- whether the inode map has a record of this version at this address, in this slot
abbrev pub is_there : Option InodePlace → ℕ → ℕ → ℕ → Bool
is_there None version address slot = false
is_there (Some place) version address slot =
    (place.addr == address) && ((place.slot == slot) && (place.version == version))

-- a record that stands in a slot of the block at an address, and whether it is the present one of its number
abbrev pub logged_of : Parts → ℕ → ℕ → ℕ × ℕ → LoggedRecord
logged_of p address slot key = record {
  number = key.0;
  version = key.1;
  present = present p key.0 key.1 Inodes;
  is_live = is_there (place_of p.log.tables key.0) key.1 address slot;
}

abbrev pub logged_at : Parts → ℕ → ℕ → Option LoggedRecord
logged_at p address slot = option_map (logged_of p address slot) (record_at p.log.memory address slot)

-- one for a record
abbrev pub found_one : Option LoggedRecord → ℕ
found_one None = 0
found_one (Some logged) = 1

-- one for a present record
abbrev pub live_one : Option LoggedRecord → ℕ
live_one None = 0
live_one (Some logged) = if logged.is_live then 1 else 0

-- how many records stand in the block at an address
abbrev pub found_at : Parts → ℕ → ℕ
found_at p address =
    found_one (logged_at p address 0) + found_one (logged_at p address 1) + found_one (logged_at p address 2)
    + found_one (logged_at p address 3)

-- how many of them are the present ones
abbrev pub live_at : Parts → ℕ → ℕ
live_at p address =
    live_one (logged_at p address 0) + live_one (logged_at p address 1) + live_one (logged_at p address 2)
    + live_one (logged_at p address 3)

-- what is seen of a block that an entry names: of a file's block its present address, of an inode block its records
abbrev pub named_kind : Parts → ℕ → SummaryEntry → LogicalBlock → Kind
named_kind p address e Inodes = Records (found_at p address) (live_at p address)
named_kind p address e (Data index) = Block e (present p e.number e.version e.block)
named_kind p address e Single = Block e (present p e.number e.version e.block)
named_kind p address e Double = Block e (present p e.number e.version e.block)
named_kind p address e (Child index) = Block e (present p e.number e.version e.block)

-- what is seen of what stands at an address
abbrev pub standing_kind : Parts → ℕ → Standing → Kind
standing_kind p address standing.Unwritten = Unwritten
standing_kind p address (standing.Summary count) = Summary count
standing_kind p address (standing.Named e) = named_kind p address e e.block

-- what stands at an address, by the log of its segment; the label stands at 0
abbrev pub kind_at : Parts → ℕ → Kind
kind_at p address =
    if address == 0 then Label
    else standing_kind p address (standing_at (has_serials p.log.memory)
    (expected_at p.log.memory (address / SEGMENT_BLOCKS) address) (block_at p.log.memory address))

abbrev pub cell_at : Parts → ℕ → Cell
cell_at p address = record { address = address; kind = kind_at p address }

-- so many addresses, from one on
unfoldable pub cells_from : Parts → ℕ → ℕ → List Cell
cells_from p first zero = []
cells_from p first (suc n) = cells_from p first n ++ cell_at p (first + n) ∷ []

-- the 64 blocks of a segment
abbrev pub cells_of : Parts → ℕ → List Cell
cells_of p segment = cells_from p (segment * SEGMENT_BLOCKS) SEGMENT_BLOCKS

-- a cell of the volume
abbrev pub IsIn : Parts → Cell → Type 0
IsIn p cell = cell.address < p.log.memory.segments * SEGMENT_BLOCKS

-- A file's block is live where its present address is this one. Of a block of records all may be the present ones, or a
-- part.
abbrev pub life_among : ℕ → ℕ → Life
life_among found live = if live == 0 then Dead else (if live == found then Live else Partly)

abbrev pub block_life : ℕ → ℕ → Life
block_life address present = if present == address then Live else Dead

abbrev pub record_life : Bool → Life
record_life is_live = if is_live then Live else Dead
