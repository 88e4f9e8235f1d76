-- Whose each block of a segment is.
use Rattle.std.specs.Prelude.{ℕ, zero, suc, List, [], ◌∷◌, ◌++◌, decimal, Option, None, Some}
use Rattle.std.specs.List.{flat_map}
use Rattle.lfs_segments.specs.declared.entry.SummaryEntry.{SummaryEntry}
use Rattle.lfs_segments.specs.Entry.{block_number}
use Rattle.lfs_parts.specs.declared.parts.Parts.{Parts}
use Rattle.lfs_words.specs.Wording.{spaced}
use Rattle.lfs_view.specs.Cells.{cells_of, logged_at}
use Rattle.lfs_view.specs.declared.cells.Cell.{Cell}
use Rattle.lfs_view.specs.declared.cells.Kind.{Kind}
use Rattle.lfs_view.specs.declared.cells.Kind.TheVariants.{Label, Summary, Block, Records, Unwritten}
use Rattle.lfs_view.specs.declared.records.LoggedRecord.{LoggedRecord}

-- the end of a block's part: a semicolon
abbrev pub part_end : List ℕ
part_end = 59 ∷ []

-- a block of a file: the number and the version of the file, and which of its blocks it is, as an info has it
abbrev pub block_owner : SummaryEntry → List ℕ
block_owner e = decimal e.number ++ spaced (decimal e.version ∷ decimal (block_number e.block) ∷ []) ++ part_end

-- a record: the number and the version of its file, a space before each
abbrev pub logged_owner : Option LoggedRecord → List ℕ
logged_owner None = []
logged_owner (Some logged) = spaced (decimal logged.number ∷ decimal logged.version ∷ [])

-- the records in a block of records, by their slots
abbrev pub records_owners : Parts → ℕ → List ℕ
records_owners p address =
    logged_owner (logged_at p address 0) ++ logged_owner (logged_at p address 1) ++ logged_owner (logged_at p address 2)
    ++ logged_owner (logged_at p address 3) ++ part_end

-- whose is what stands at an address: nothing is told of the label and of a summary, and has a part
abbrev pub kind_owner : Parts → ℕ → Kind → List ℕ
kind_owner p address Label = part_end
kind_owner p address (Summary count) = part_end
kind_owner p address (Block e present) = block_owner e
kind_owner p address (Records found live) = records_owners p address
kind_owner p address Unwritten = []

abbrev pub cell_owner : Parts → Cell → List ℕ
cell_owner p cell = kind_owner p cell.address cell.kind

-- whose the blocks of a segment are, up to the end of its log
abbrev pub owners_text : Parts → ℕ → List ℕ
owners_text p segment = flat_map (cell_owner p) (cells_of p segment)

-- those of the first n segments
unfoldable pub first_owners : Parts → ℕ → List (List ℕ)
first_owners p zero = []
first_owners p (suc n) = first_owners p n ++ owners_text p n ∷ []

-- whose the blocks of each segment are
abbrev pub owners_of : Parts → List (List ℕ)
owners_of p = first_owners p p.log.memory.segments
