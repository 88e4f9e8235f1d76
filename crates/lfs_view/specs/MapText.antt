-- The text of a map: a line for each segment, what waits, and what the signs say.
use Rattle.std.specs.Prelude.{ℕ, zero, suc, ◌-◌, List, [], ◌∷◌, ◌++◌, codes, decimal, length, map, replicate}
use Rattle.lfs_segments.specs.declared.entry.LogicalBlock.{LogicalBlock}
use Rattle.lfs_segments.specs.declared.entry.LogicalBlock.TheVariants.{Data, Single, Double, Child, Inodes}
use Rattle.lfs_ifile.specs.declared.segment.SegState.{SegState}
use Rattle.lfs_ifile.specs.declared.segment.SegState.TheVariants.{Clean, Dirty, Active}
use Rattle.lfs_log.specs.Parts.{live_of, state_of}
use Rattle.lfs_parts.specs.declared.parts.Parts.{Parts}
use Rattle.lfs_words.specs.Wording.{spaced}
use Rattle.lfs_view.specs.Cells.{block_life, cells_of, life_among}
use Rattle.lfs_view.specs.declared.cells.Cell.{Cell}
use Rattle.lfs_view.specs.declared.cells.Kind.{Kind}
use Rattle.lfs_view.specs.declared.cells.Kind.TheVariants.{Label, Summary, Block, Records, Unwritten}
use Rattle.lfs_view.specs.declared.life.Life.{Life}
use Rattle.lfs_view.specs.declared.life.Life.TheVariants.{Live, Partly, Dead}

-- the word of a state
abbrev pub state_word : SegState → List ℕ
state_word Clean = codes "clean"
state_word Dirty = codes "dirty"
state_word Active = codes "active"

-- one of two signs; p where a part is live
abbrev pub life_sign : ℕ → ℕ → Life → ℕ
life_sign live dead Live = live
life_sign live dead Partly = 112
life_sign live dead Dead = dead

-- D or d for data, I or i for an indirect block, R or r for records: the second where it is dead
abbrev pub block_sign : LogicalBlock → Life → ℕ
block_sign (Data index) life = life_sign 68 100 life
block_sign Single life = life_sign 73 105 life
block_sign Double life = life_sign 73 105 life
block_sign (Child index) life = life_sign 73 105 life
block_sign Inodes life = life_sign 82 114 life

-- L for the label, S for a summary, a full stop where nothing was written
abbrev pub kind_sign : ℕ → Kind → ℕ
kind_sign address Label = 76
kind_sign address (Summary count) = 83
kind_sign address (Block e present) = block_sign e.block (block_life address present)
kind_sign address (Records found live) = block_sign Inodes (life_among found live)
kind_sign address Unwritten = 46

abbrev pub cell_sign : Cell → ℕ
cell_sign cell = kind_sign cell.address cell.kind

-- a word at the right of so many columns
abbrev pub right : ℕ → List ℕ → List ℕ
right width word = replicate (width - length word) 32 ++ word

-- the number, the state and the live bytes of a segment
abbrev pub use_text : Parts → ℕ → List ℕ
use_text p segment =
    right 4 (decimal segment) ++ 32 ∷ right 6 (state_word (state_of p.log.tables segment)) ++ 32
    ∷ right 5 (decimal (live_of p.log.tables segment))

-- the line of a segment: how it is used, and a sign for each of its 64 blocks
unfoldable pub row_text : Parts → ℕ → List ℕ
row_text p segment = use_text p segment ++ 32 ∷ map cell_sign (cells_of p segment) ++ 10 ∷ []

-- the lines of the first n segments
unfoldable pub rows_below : Parts → ℕ → List ℕ
rows_below p zero = []
rows_below p (suc n) = rows_below p n ++ row_text p n

-- a line: a word, words behind it, each behind a space, and a line feed
abbrev pub line_of : List ℕ → List (List ℕ) → List ℕ
line_of first words = first ++ (spaced words ++ 10 ∷ [])

-- the line of so many blocks and so many records that wait to be written
abbrev pub waiting_line : ℕ → ℕ → List ℕ
waiting_line blocks records =
    line_of (codes "waiting") (decimal blocks ∷ codes "blocks" ∷ decimal records ∷ codes "records" ∷ [])

-- how many blocks and how many records wait to be written
abbrev pub waiting_text : Parts → List ℕ
waiting_text p = waiting_line (length p.cache.locked) (length p.waiting)

-- what the signs say
unfoldable pub legend : List ℕ
legend =
    codes "L label  S summary  D data  I indirect  R records  p partly live  d i r dead  . not yet written" ++ 10 ∷ []

-- a map of the log
abbrev pub map_text : Parts → List ℕ
map_text p = rows_below p p.log.memory.segments ++ (waiting_text p ++ legend)
