-- Bytes put into a file.
use Rattle.std.specs.Prelude.{◌≡◌, ◌≢◌, ◌⊎◌, ℕ, ◌+◌, ◌-◌, ◌*◌, ◌/◌, ◌<◌, ◌≤◌, max, List, length, Some, true}
use Rattle.std.specs.List.{Contains}
use Rattle.std.specs.FinMap as map
use Rattle.lfs_types.specs.Changes.{changed_at}
use Rattle.lfs_types.specs.Splicing.{splice}
use Rattle.lfs_types.specs.Tree.{Content, file_of}
use Rattle.lfs_types.specs.declared.attrs.Attrs.{Attrs}
use Rattle.lfs_inodes.specs.declared.inode.Inode.{Inode}
use Rattle.lfs_inodes.specs.Reading.{Fields, fields_of}
use Rattle.lfs_bmap.specs.declared.blocks.FileBlock.TheVariants.{Data}
use Rattle.lfs_bmap.specs.Pieces.{IsPut, Touches}
use Rattle.lfs_bmap.specs.Reading.{address, data_block}
use Rattle.lfs_bmap.specs.Tables.{tables_between}
use Rattle.lfs_bmap.specs.Ways.{IsBlockWay, codes_on, data_way}
use Rattle.lfs_cache.specs.Contents.{Contents, IsLocked}
use Rattle.lfs_cache.specs.declared.key.Key.{Key}
use Rattle.lfs_parts.specs.declared.parts.Parts.{Parts}
use Rattle.lfs_types.specs.declared.block.TheConstants.{BLOCK_SIZE}
use Rattle.lfs_types.specs.declared.limits.TheConstants.{FILE_BYTES}
use Rattle.lfs_ifile.specs.Tables.{row_of}
use Rattle.lfs_inodes.specs.Facts.{IsSizeOf}
use Rattle.lfs_parts.specs.declared.records.TheConstants.{WAITING_LIMIT}
use Rattle.lfs_staging.specs.Staging.{IsStaged, MayStage, TakesFrames}
use Rattle.lfs_parts.specs.Store.{AreFiles, ParentsWait}
use Rattle.lfs_parts.specs.Waiting.{without}
use Rattle.lfs_parts.specs.View.{LiesIn, blocks_of, key_of, record_of, tree_of, version_of}

-- all of block n of a file is among some bytes at a place of it
abbrev pub Covers : ℕ → ℕ → List ℕ → Type 0
Covers n start bytes = (start ≤ BLOCK_SIZE * n)
    × (BLOCK_SIZE * n + BLOCK_SIZE ≤ start + length bytes)

-- how many blocks some bytes at a place of a file fall into, at least one
abbrev pub blocks_of_put : ℕ → ℕ → ℕ
blocks_of_put start count = (start + count - 1) / BLOCK_SIZE + 1 - start / BLOCK_SIZE

-- the frames that bytes put into a file take at most: one for each block, and one for each indirect block that leads to
-- them
abbrev pub frames_of_put : ℕ → ℕ → ℕ
frames_of_put start count = blocks_of_put start count
    + tables_between (start / BLOCK_SIZE) ((start + count - 1) / BLOCK_SIZE)

-- A code is that of a block that bytes put at a place of a file fall into, or of an indirect block that leads to one.
pub record LeadsToPut (start count code : ℕ) : Type 0 where
  pub index : ℕ
  pub touched : Touches start (start + count) index
  pub on_way : Contains (codes_on (data_way index)) code

-- each key that waits waited, or is of such a block of a number
abbrev pub TakesPut : ℕ → ℕ → ℕ → ℕ → Contents → Contents → Type 0
TakesPut number version start count old new =
    (key : Key) → IsLocked key new
    → ((code : ℕ) × LeadsToPut start count code × (key ≡ key_of number version code))
    ⊎ IsLocked key old

-- What falls of some bytes, put at `start` of a file, into one of its data blocks is there, and nothing else changed.
pub record PutsBlock (v : Inode) (index start : ℕ) (bytes : List ℕ) (old new : Parts) : Type 0 where
  pub log : new.log ≡ old.log
  pub records : (n : ℕ) → record_of new n ≡ record_of old n
  pub put : IsPut index start bytes (data_block (tree_of old v.number) index)
      (data_block (tree_of new v.number) index)
  pub rest : (m : ℕ) → m ≢ index → data_block (tree_of new v.number) m
      ≡ data_block (tree_of old v.number) m
  pub others : (n m : ℕ) → n ≢ v.number
      → data_block (tree_of new n) m ≡ data_block (tree_of old n) m
  pub addresses : (n : ℕ) (way : List ℕ) → IsBlockWay way
      → address (tree_of new n) way ≡ address (tree_of old n) way
  pub again : MayStage new v
  pub kept : (spare : ℕ) → IsStaged old spare → IsStaged new spare
  pub takes : TakesFrames v.number (Data index) old new

-- Bytes put at `start` of a file are there: what falls of them into each of its data blocks. Nothing else changed.
pub record PutsBytes (v : Inode) (start : ℕ) (bytes : List ℕ) (old new : Parts) : Type 0 where
  pub log : new.log ≡ old.log
  pub records : (n : ℕ) → record_of new n ≡ record_of old n
  pub put : (m : ℕ) → IsPut m start bytes (data_block (tree_of old v.number) m)
      (data_block (tree_of new v.number) m)
  pub others : (n m : ℕ) → n ≢ v.number
      → data_block (tree_of new n) m ≡ data_block (tree_of old n) m
  pub addresses : (n : ℕ) (way : List ℕ) → IsBlockWay way
      → address (tree_of new n) way ≡ address (tree_of old n) way
  pub again : MayStage new v
  pub kept : (spare : ℕ) → IsStaged old spare → IsStaged new spare
  pub frames : length new.cache.locked
      ≤ length old.cache.locked + frames_of_put start (length bytes)
  pub only : TakesPut v.number (version_of old v.number) start (length bytes) old.cache new.cache
  pub waiting : without v.number new.waiting ≡ without v.number old.waiting

-- The record of a file waits with a size of at least so many bytes. Nothing else changed.
pub record GrowsTo (v w : Inode) (size : ℕ) (old new : Parts) : Type 0 where
  pub log : new.log ≡ old.log
  pub cache : new.cache ≡ old.cache
  pub number : w.number ≡ v.number
  pub size_is : w.size ≡ max v.size size
  pub here : record_of new v.number ≡ Some
      (record (fields_of v) { attributes = record ((fields_of v).attributes) { size = max v.size size } })
  pub others : (n : ℕ) → n ≢ v.number → record_of new n ≡ record_of old n
  pub blocks : (n : ℕ) → tree_of new n ≡ tree_of old n
  pub again : MayStage new w
  pub kept : (spare : ℕ) → IsStaged old spare → IsStaged new spare
  pub room : without v.number new.waiting ≡ without v.number old.waiting

-- the content with bytes put at a place of a file
abbrev pub with_put : ℕ → ℕ → List ℕ → Content → Content
with_put number start bytes c = changed_at (map.get c number) number
    (λ f. record f { bytes = splice f.bytes start bytes }) c

-- the content with other attributes of a file, whose bytes stay
abbrev pub with_attrs : ℕ → Attrs → Content → Content
with_attrs number attrs c = changed_at (map.get c number) number (λ f. file_of attrs f.bytes) c

-- A file may be changed: its number is in use, and there is room for its record.
pub record MayChange (p : Parts) (number : ℕ) : Type 0 where
  pub files : AreFiles p
  pub parents : ParentsWait p
  pub inside : LiesIn (blocks_of p) (tree_of p number)
  pub in_range : number < length p.log.tables.rows
  pub in_use : (row_of p.log.tables number).used ≡ true
  pub records : length (without number p.waiting) < WAITING_LIMIT

-- Bytes may be put at a place of a file: there are some, and it may have the size that it gets.
pub record MayPut (p : Parts) (number start : ℕ) (bytes : List ℕ) : Type 0 where
  pub some : 0 < length bytes
  pub bounded : start + length bytes ≤ FILE_BYTES
  pub sized : (f : Fields) → record_of p number ≡ Some f
      → IsSizeOf f.attributes.kind (max f.attributes.size (start + length bytes))
