-- The length of a file is set.
use Rattle.std.specs.Prelude.{◌≡◌, ◌≢◌, ℕ, ◌+◌, ◌-◌, ◌<◌, ◌≤◌, ◌⊎◌, List, [], ◌∷◌, ◌++◌, if◌then◌else◌, length, nat_lt}
use Rattle.std.specs.Prelude.{Some, IsSome, false, true}
use Rattle.std.specs.FinMap as map
use Rattle.lfs_types.specs.Changes.{changed_at}
use Rattle.lfs_types.specs.Splicing.{resized}
use Rattle.lfs_types.specs.Tree.{Content}
use Rattle.lfs_types.specs.declared.limits.TheConstants.{FILE_BLOCKS}
use Rattle.lfs_ifile.specs.Tables.{row_of}
use Rattle.lfs_inodes.specs.Attributes.{Attributes}
use Rattle.lfs_inodes.specs.Facts.{IsSizeOf, block_count}
use Rattle.lfs_inodes.specs.Reading.{Fields}
use Rattle.lfs_cache.specs.declared.key.Key.{Key}
use Rattle.lfs_cache.specs.Contents.{IsLocked}
use Rattle.lfs_cache.specs.Keys.{same_key}
use Rattle.lfs_bmap.specs.declared.blocks.TheConstants.{FIRST_DATA_CODE}
use Rattle.lfs_bmap.specs.declared.blocks.FileBlock.{FileBlock}
use Rattle.lfs_bmap.specs.declared.blocks.FileBlock.TheVariants.{Data}
use Rattle.lfs_bmap.specs.Blocks.{IsFileBlock, code_of, first_under, table_of, way_to}
use Rattle.lfs_bmap.specs.Pieces.{IsBlockCut, IsPadded}
use Rattle.lfs_bmap.specs.Reading.{address, data_block}
use Rattle.lfs_bmap.specs.Ways.{IsBlockWay, code_at, codes_on, data_way}
use Rattle.lfs_parts.specs.declared.parts.Parts.{Parts}
use Rattle.lfs_staging.specs.Changing.{StaysInLog, frames_of_length, length_codes}
use Rattle.lfs_staging.specs.Staging.{HasFrames, IsStaged, TakesFrames, TakesOnly}
use Rattle.lfs_parts.specs.Store.{HolderWaits, IsWithin}
use Rattle.lfs_parts.specs.View.{key_of, record_of, tree_of, version_of, waiting_in}
use Rattle.lfs_parts.specs.Waiting.{KeepsOtherRecords, without}

-- the content with a file cut, or with zeros added to it, to have this many bytes
abbrev pub with_length : ℕ → ℕ → Content → Content
with_length number len c = changed_at (map.get c number) number
    (λ f. record f { bytes = resized f.bytes len }) c

-- The block at the end of a way of a number has no address, and doesn't wait.
pub record IsGone (p : Parts) (number : ℕ) (way : List ℕ) : Type 0 where
  pub nowhere : address (tree_of p number) way ≡ 0
  pub free : IsLocked (key_of number (version_of p number) (code_at way)) p.cache → ⊥

-- no block of a number that leads only to data blocks from one on has an address, and none waits
abbrev pub GoneFrom : Parts → ℕ → ℕ → Type 0
GoneFrom p number first = (block : FileBlock) → IsFileBlock block → code_of block ≢ 0
    → first ≤ first_under block
    → IsGone p number (way_to block)

-- A block of a file may be given back: it lies within the file, whose record waits, and so does what holds the block's
-- address; the blocks whose addresses it holds went before.
pub record MayClear (p : Parts) (number : ℕ) (block : FileBlock) : Type 0 where
  pub staged : IsStaged p 0
  pub in_use : (row_of p.log.tables number).used ≡ true
  pub waits : IsSome (waiting_in p.waiting number)
  pub can : IsFileBlock block
  pub other : code_of block ≢ 0
  pub within : (f : Fields) → record_of p number ≡ Some f → IsWithin block f.attributes.size
  pub parent : (i : ℕ) (up : List ℕ) → way_to block ≡ i ∷ up
      → HolderWaits p.cache number (version_of p number) up
  pub beneath : (j : ℕ) → IsBlockWay (j ∷ way_to block) → IsGone p number (j ∷ way_to block)

-- the record of a number has these attributes
pub record HasAttributes (p : Parts) (number : ℕ) (a : Attributes) : Type 0 where
  pub addresses : List ℕ
  pub there : record_of p number ≡ Some (record { attributes = a; addresses = addresses })

-- Blocks of a file went, but nothing else did: each record has the attributes that it had, and the file's waits.
pub record KeepsRest (number : ℕ) (old new : Parts) : Type 0 where
  pub log : StaysInLog old new
  pub rows : new.log.tables.rows ≡ old.log.tables.rows
  pub others : (n : ℕ) → n ≢ number → record_of new n ≡ record_of old n
  pub attributes : (f : Fields) → record_of old number ≡ Some f
      → HasAttributes new number f.attributes
  pub waits : IsSome (waiting_in new.waiting number)
  pub other_records : KeepsOtherRecords number old.waiting new.waiting
  pub many : length new.waiting ≤ length old.waiting

-- A block of a file was given back: it has no address, waits no more, and reads as zeros.
pub record ClearsBlock (number : ℕ) (block : FileBlock) (old new : Parts) : Type 0 where
  pub staged : IsStaged new 0
  pub rest : KeepsRest number old new
  pub nowhere : address (tree_of new number) (way_to block) ≡ 0
  pub free : IsLocked (key_of number (version_of old number) (code_of block)) new.cache → ⊥
  pub addresses : (way : List ℕ) → IsBlockWay way → way ≢ way_to block
      → address (tree_of new number) way ≡ address (tree_of old number) way
  pub only : (key : Key) → IsLocked key new.cache → IsLocked key old.cache
  pub kept : (key : Key) → same_key (key_of number (version_of old number) (code_of block)) key
      ≡ false → IsLocked key old.cache → IsLocked key new.cache
  pub data_same : (n index : ℕ) → (n ≢ number) ⊎ (FIRST_DATA_CODE + index ≢ code_of block)
      → data_block (tree_of new n) index ≡ data_block (tree_of old n) index

-- The data blocks of a file from one to before another may be given back: they lie within it, and what holds their
-- addresses waits.
pub record MayClearBetween (p : Parts) (number first end : ℕ) : Type 0 where
  pub staged : IsStaged p 0
  pub in_use : (row_of p.log.tables number).used ≡ true
  pub waits : IsSome (waiting_in p.waiting number)
  pub bounded : end ≤ FILE_BLOCKS
  pub within : (f : Fields) → record_of p number ≡ Some f → end ≤ block_count f.attributes.size
  pub holders : (index : ℕ) → first ≤ index → index < end
      → HolderWaits p.cache number (version_of p number) (way_to (table_of (Data index)))

-- They were given back.
pub record ClearsBlocks (number first end : ℕ) (old new : Parts) : Type 0 where
  pub staged : IsStaged new 0
  pub rest : KeepsRest number old new
  pub only : (key : Key) → IsLocked key new.cache → IsLocked key old.cache
  pub gone : (index : ℕ) → first ≤ index → index < end → IsGone new number (data_way index)
  pub still : (block : FileBlock) → IsFileBlock block → IsGone old number (way_to block)
      → IsGone new number (way_to block)
  pub tables : (code : ℕ) → code < FIRST_DATA_CODE
      → IsLocked (key_of number (version_of old number) code) old.cache
      → IsLocked (key_of number (version_of old number) code) new.cache
  pub data_same : (n index : ℕ) → (n ≢ number) ⊎ ((index < first) ⊎ (end ≤ index))
      → data_block (tree_of new n) index ≡ data_block (tree_of old n) index

-- An indirect block that waits may be given back, with the data blocks up to before one whose addresses stand in it:
-- these may be given back, and then the block itself.
pub record MayClearTable (p : Parts) (number : ℕ) (table : FileBlock) (end : ℕ) : Type 0 where
  pub blocks : MayClearBetween p number (first_under table) end
  pub can : IsFileBlock table
  pub other : code_of table ≢ 0
  pub holds : code_of table < FIRST_DATA_CODE
  pub under : (index : ℕ) → first_under table ≤ index → index < end → table_of (Data index) ≡ table
  pub waits : IsLocked (key_of number (version_of p number) (code_of table)) p.cache
  pub last : (q : Parts) → ClearsBlocks number (first_under table) end p q → MayClear q number table

-- They were given back, as one after another would be, the block itself last.
pub record ClearsTable (number : ℕ) (table : FileBlock) (end : ℕ) (old new : Parts) : Type 0 where
  pub between : Parts
  pub blocks : ClearsBlocks number (first_under table) end old between
  pub last : ClearsBlock number table between new

-- Of the blocks of a file that lead only to data blocks from one on those are gone that hold addresses and have a code
-- from `turn` on, and the data blocks whose addresses stand in a block with such a code.
pub record GoneDown (p : Parts) (number left turn : ℕ) : Type 0 where
  pub tables : (block : FileBlock) → IsFileBlock block → code_of block < FIRST_DATA_CODE
      → turn ≤ code_of block → left ≤ first_under block → IsGone p number (way_to block)
  pub blocks : (index : ℕ) → index < FILE_BLOCKS → turn ≤ code_of (table_of (Data index))
      → left ≤ index → IsGone p number (data_way index)

-- What a block that holds addresses leads to may be given back, from data block `left` on: what has a greater code went
-- before, and there are frames for the block and its parents.
pub record MayDrop (p : Parts) (number : ℕ) (table : FileBlock) (left blocks : ℕ) : Type 0 where
  pub staged : IsStaged p 0
  pub in_use : (row_of p.log.tables number).used ≡ true
  pub waits : IsSome (waiting_in p.waiting number)
  pub can : IsFileBlock table
  pub other : code_of table ≢ 0
  pub holds : code_of table < FIRST_DATA_CODE
  pub ordered : left ≤ blocks
  pub all : (f : Fields) → record_of p number ≡ Some f → blocks ≡ block_count f.attributes.size
  pub frames : HasFrames p number (codes_on (way_to table))
  pub gone : GoneDown p number left (code_of table + 1)

-- It was given back, and the block too, if it leads to no other data blocks. What waits more is on the block's way.
pub record DropsTable (number : ℕ) (table : FileBlock) (left : ℕ) (old new : Parts) : Type 0 where
  pub staged : IsStaged new 0
  pub rest : KeepsRest number old new
  pub takes : TakesOnly number (version_of old number) (codes_on (way_to table)) old.cache new.cache
  pub gone : GoneDown new number left (code_of table)
  pub data_same : (n index : ℕ) → (n ≢ number) ⊎ (index < left) → data_block (tree_of new n) index
      ≡ data_block (tree_of old n) index

-- the block that holds the address of the last data block that is left
abbrev pub last_table : ℕ → FileBlock
last_table left = table_of (Data (left - 1))

-- The codes of the blocks that a cut has wait while what a block leads to goes: the last data block that is left and
-- what holds its address, the block and its parents. What leads to that holder is among these.
abbrev pub cut_codes : ℕ → FileBlock → List ℕ
cut_codes left table = (FIRST_DATA_CODE + (left - 1)) ∷ code_of (last_table left)
    ∷ codes_on (way_to table)

-- The codes of the blocks that it has wait when the turn of the block with a code is over: those that lead to the last
-- data block that is left, and the double indirect block, as long as its turn is to come.
abbrev pub down_codes : ℕ → ℕ → List ℕ
down_codes left turn = (if nat_lt 2 turn then 2 ∷ [] else []) ++ codes_on (way_to (last_table left))

-- The blocks of a file that hold addresses were dropped, from the last down to the one with a code. What waits more
-- leads to the last data block that is left, or to blocks whose turn is to come.
pub record DropsDown (number left turn : ℕ) (old new : Parts) : Type 0 where
  pub staged : IsStaged new 0
  pub rest : KeepsRest number old new
  pub takes : TakesOnly number (version_of old number) (down_codes left turn) old.cache new.cache
  pub gone : GoneDown new number left turn
  pub data_same : (n index : ℕ) → (n ≢ number) ⊎ (index < left) → data_block (tree_of new n) index
      ≡ data_block (tree_of old n) index

-- The blocks of a file that lead only to data blocks from one on may be given back, of so many data blocks. There are
-- frames for the last block that is left and for each block whose turn comes, with its parents.
pub record MayDropAll (p : Parts) (number left blocks : ℕ) : Type 0 where
  pub staged : IsStaged p 0
  pub in_use : (row_of p.log.tables number).used ≡ true
  pub waits : IsSome (waiting_in p.waiting number)
  pub ordered : left ≤ blocks
  pub some : 0 < blocks
  pub bounded : blocks ≤ FILE_BLOCKS
  pub all : (f : Fields) → record_of p number ≡ Some f → blocks ≡ block_count f.attributes.size
  pub frames : (table : FileBlock) → IsFileBlock table → code_of (last_table left) ≤ code_of table
      → code_of table ≤ code_of (table_of (Data (blocks - 1)))
      → HasFrames p number (cut_codes left table)

-- They were given back.
pub record DropsBlocks (number left : ℕ) (old new : Parts) : Type 0 where
  pub staged : IsStaged new 0
  pub rest : KeepsRest number old new
  pub takes : TakesOnly number (version_of old number)
      (codes_on (way_to (last_table left))) old.cache new.cache
  pub gone : GoneFrom new number left
  pub data_same : (n index : ℕ) → (n ≢ number) ⊎ (index < left) → data_block (tree_of new n) index
      ≡ data_block (tree_of old n) index

-- What a data block of a file has past a length is zero; it waits, with its parents. Nothing else changed.
pub record CutsBlock (number index len : ℕ) (old new : Parts) : Type 0 where
  pub staged : IsStaged new 0
  pub log : new.log ≡ old.log
  pub records : (n : ℕ) → record_of new n ≡ record_of old n
  pub addresses : (n : ℕ) (way : List ℕ) → IsBlockWay way
      → address (tree_of new n) way ≡ address (tree_of old n) way
  pub cut : IsBlockCut index len (data_block (tree_of old number) index)
      (data_block (tree_of new number) index)
  pub others : (n m : ℕ) → (n ≢ number) ⊎ (m ≢ index)
      → data_block (tree_of new n) m ≡ data_block (tree_of old n) m
  pub takes : TakesFrames number (Data index) old new

-- What the blocks of a file that a length takes have past it is zero. Nothing else changed.
pub record CutsLast (number len : ℕ) (old new : Parts) : Type 0 where
  pub staged : IsStaged new 0
  pub log : new.log ≡ old.log
  pub records : (n : ℕ) → record_of new n ≡ record_of old n
  pub addresses : (n : ℕ) (way : List ℕ) → IsBlockWay way
      → address (tree_of new n) way ≡ address (tree_of old n) way
  pub cut : (m : ℕ) → m < block_count len → IsBlockCut m len (data_block (tree_of old number) m)
      (data_block (tree_of new number) m)
  pub others : (n m : ℕ) → (n ≢ number) ⊎ (block_count len ≤ m) → data_block (tree_of new n) m
      ≡ data_block (tree_of old n) m
  pub takes : TakesOnly number (version_of old number) (length_codes len) old.cache new.cache
  pub waiting : without number new.waiting ≡ without number old.waiting
  pub waits : IsSome (waiting_in old.waiting number) → IsSome (waiting_in new.waiting number)

-- The record of a file may say a length: its bytes are zero past it, and no block past it has an address or waits.
pub record MayShorten (p : Parts) (number len : ℕ) : Type 0 where
  pub staged : IsStaged p 0
  pub in_use : (row_of p.log.tables number).used ≡ true
  pub waits : IsSome (waiting_in p.waiting number)
  pub sized : (f : Fields) → record_of p number ≡ Some f → IsSizeOf f.attributes.kind len
  pub less : (f : Fields) → record_of p number ≡ Some f → len ≤ f.attributes.size
  pub gone : GoneFrom p number (block_count len)
  pub padded : IsPadded (data_block (tree_of p number)) len

-- The record of a file waits with another size. Nothing else changed.
pub record Shortens (number len : ℕ) (old new : Parts) : Type 0 where
  pub staged : IsStaged new 0
  pub log : new.log ≡ old.log
  pub cache : new.cache ≡ old.cache
  pub here : (f : Fields) → record_of old number ≡ Some f
      → HasAttributes new number (record (f.attributes) { size = len })
  pub others : (n : ℕ) → n ≢ number → record_of new n ≡ record_of old n
  pub blocks : (n : ℕ) → tree_of new n ≡ tree_of old n
  pub other_records : KeepsOtherRecords number old.waiting new.waiting
  pub waiting : length new.waiting ≤ length old.waiting
  pub waits : IsSome (waiting_in new.waiting number)

-- A file was cut: its record says the length, and its bytes are zero past it. Nothing else changed.
pub record CutsFile (number len : ℕ) (old new : Parts) : Type 0 where
  pub staged : IsStaged new 0
  pub log : StaysInLog old new
  pub rows : new.log.tables.rows ≡ old.log.tables.rows
  pub here : (f : Fields) → record_of old number ≡ Some f
      → HasAttributes new number (record (f.attributes) { size = len })
  pub others : (n : ℕ) → n ≢ number → record_of new n ≡ record_of old n
  pub cut : (m : ℕ) → IsBlockCut m len (data_block (tree_of old number) m)
      (data_block (tree_of new number) m)
  pub data_same : (n m : ℕ) → n ≢ number
      → data_block (tree_of new n) m ≡ data_block (tree_of old n) m
  pub frames : length new.cache.locked ≤ length old.cache.locked + frames_of_length len
  pub takes : TakesOnly number (version_of old number) (length_codes len) old.cache new.cache
  pub other_records : KeepsOtherRecords number old.waiting new.waiting
  pub waiting : length new.waiting ≤ length old.waiting + 1
  pub waits : IsSome (waiting_in new.waiting number)
