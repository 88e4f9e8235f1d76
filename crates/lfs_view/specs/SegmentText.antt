-- The text of a segment: a line for each of its blocks that was written.
use Rattle.std.specs.Prelude.{ℕ, nat_lt, List, [], ◌∷◌, ◌++◌, codes, decimal, Option, None, Some, if◌then◌else◌}
use Rattle.std.specs.List.{flat_map}
use Rattle.lfs_segments.specs.declared.entry.LogicalBlock.{LogicalBlock}
use Rattle.lfs_segments.specs.declared.entry.LogicalBlock.TheVariants.{Data, Single, Double, Child, Inodes}
use Rattle.lfs_segments.specs.declared.entry.SummaryEntry.{SummaryEntry}
use Rattle.lfs_segments.specs.Entry.{block_number}
use Rattle.lfs_log.specs.Parts.{live_of, state_of}
use Rattle.lfs_parts.specs.declared.parts.Parts.{Parts}
use Rattle.lfs_view.specs.Cells.{block_life, cells_of, life_among, record_life, logged_at}
use Rattle.lfs_view.specs.MapText.{line_of, state_word}
use Rattle.lfs_view.specs.declared.cells.Cell.{Cell}
use Rattle.lfs_view.specs.declared.cells.Kind.{Kind}
use Rattle.lfs_view.specs.declared.cells.Kind.TheVariants.{Label, Summary, Block, Records, Unwritten}
use Rattle.lfs_view.specs.declared.life.Life.{Life}
use Rattle.lfs_view.specs.declared.life.Life.TheVariants.{Live, Partly, Dead}
use Rattle.lfs_view.specs.declared.records.LoggedRecord.{LoggedRecord}

abbrev pub life_word : Life → List ℕ
life_word Live = codes "live"
life_word Partly = codes "partly"
life_word Dead = codes "dead"

abbrev pub block_word : LogicalBlock → List ℕ
block_word (Data index) = codes "data"
block_word Single = codes "indirect"
block_word Double = codes "indirect"
block_word (Child index) = codes "indirect"
block_word Inodes = codes "records"

-- a block of a file: what it is, the number, the version and the logical block of its owner, its present address, live
-- or dead
abbrev pub block_words : ℕ → SummaryEntry → ℕ → List (List ℕ)
block_words address e present =
    block_word e.block ∷ decimal e.number ∷ decimal e.version ∷ decimal (block_number e.block) ∷ decimal present
    ∷ life_word (block_life address present) ∷ []

-- a record: the number and the version of its file, its slot, its present address, live or dead
abbrev pub record_words : ℕ → LoggedRecord → List (List ℕ)
record_words slot logged =
    codes "record" ∷ decimal logged.number ∷ decimal logged.version ∷ decimal slot ∷ decimal logged.present
    ∷ life_word (record_life logged.is_live) ∷ []

-- the line of a record that stands in a slot
abbrev pub logged_line : ℕ → ℕ → Option LoggedRecord → List ℕ
logged_line address slot None = []
logged_line address slot (Some logged) = line_of (decimal address) (record_words slot logged)

-- those of a block of records
abbrev pub records_lines : Parts → ℕ → List ℕ
records_lines p address =
    logged_line address 0 (logged_at p address 0) ++ logged_line address 1 (logged_at p address 1)
    ++ logged_line address 2 (logged_at p address 2) ++ logged_line address 3 (logged_at p address 3)

-- The lines of what stands at an address: none where nothing was written. A summary is told with how many blocks follow
-- it, a block of records with how many of how many are the present ones, and then each of them.
abbrev pub kind_lines : Parts → ℕ → Kind → List ℕ
kind_lines p address Label = line_of (decimal address) (codes "label" ∷ [])
kind_lines p address (Summary count) = line_of (decimal address) (codes "summary" ∷ decimal count ∷ [])
kind_lines p address (Block e present) = line_of (decimal address) (block_words address e present)
kind_lines p address (Records found live) =
    line_of (decimal address) (codes "records" ∷ decimal live ∷ codes "of" ∷ decimal found
    ∷ life_word (life_among found live) ∷ [])
    ++ records_lines p address
kind_lines p address Unwritten = []

abbrev pub cell_lines : Parts → Cell → List ℕ
cell_lines p cell = kind_lines p cell.address cell.kind

-- the number, the state and the live bytes of a segment
abbrev pub use_words : Parts → ℕ → List (List ℕ)
use_words p segment =
    decimal segment ∷ state_word (state_of p.log.tables segment) ∷ decimal (live_of p.log.tables segment) ∷ []

-- a segment of the volume: how it is used, and the lines of its blocks
abbrev pub known_text : Parts → ℕ → List ℕ
known_text p segment = line_of (codes "segment") (use_words p segment) ++ flat_map (cell_lines p) (cells_of p segment)

-- a segment; a fault where the volume has none of this number
abbrev pub segment_text : Parts → ℕ → List ℕ
segment_text p segment =
    if nat_lt segment p.log.memory.segments then known_text p segment
    else line_of (codes "fault") (codes "NoSuchSegment" ∷ [])
