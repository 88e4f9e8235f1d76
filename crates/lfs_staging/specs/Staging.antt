-- What waits in the middle of a call, and how it grows.
use Rattle.std.specs.Prelude.{◌≡◌, ◌≢◌, ◌⊎◌, ℕ, ◌+◌, ◌*◌, ◌<◌, ◌≤◌, List, ◌∷◌, length, Some, IsSome, slice_index, true}
use Rattle.std.specs.List.{Contains}
use Rattle.lfs_types.specs.declared.block.TheConstants.{BLOCK_SIZE}
use Rattle.lfs_ifile.specs.Tables.{row_of}
use Rattle.lfs_inodes.specs.declared.inode.Inode.{Inode}
use Rattle.lfs_inodes.specs.Reading.{Fields, fields_of}
use Rattle.lfs_cache.specs.declared.key.Key.{Key}
use Rattle.lfs_cache.specs.Changes.{IsContents}
use Rattle.lfs_cache.specs.declared.cache.TheConstants.{LOCKED_LIMIT}
use Rattle.lfs_cache.specs.Contents.{Contents, IsLocked}
use Rattle.lfs_bmap.specs.declared.blocks.FileBlock.{FileBlock}
use Rattle.lfs_bmap.specs.declared.blocks.FileBlock.TheVariants.{Data}
use Rattle.lfs_bmap.specs.Blocks.{IsFileBlock, code_of, table_of, way_to}
use Rattle.lfs_bmap.specs.Log.{IsLog}
use Rattle.lfs_bmap.specs.Reading.{SameReadings, Stages, address, data_block}
use Rattle.lfs_bmap.specs.Ways.{IsBlockWay, codes_on}
use Rattle.lfs_parts.specs.declared.records.TheConstants.{WAITING_LIMIT}
use Rattle.lfs_parts.specs.declared.parts.Parts.{Parts}
use Rattle.lfs_parts.specs.Clean.{GainsNoClean}
use Rattle.lfs_parts.specs.Keys.{log_state}
use Rattle.lfs_parts.specs.Store.{AreFiles, HolderWaits, IsWithin, ParentsWait}
use Rattle.lfs_parts.specs.View.{LiesIn, blocks_of, key_of, record_of, tree_of, version_of, waiting_in}
use Rattle.lfs_parts.specs.Waiting.{AreOnce, without}

-- What holds in the middle of a call: of the files, of the log with so many spare bytes, and of what waits. There is
-- room for the records, and each block that waits lies within its file.
pub record IsStaged (p : Parts) (spare : ℕ) : Type 0 where
  pub whole : AreFiles p
  pub log : IsLog (log_state p) spare
  pub parents : ParentsWait p
  pub once : AreOnce p.waiting
  pub few : length p.waiting ≤ WAITING_LIMIT
  pub within : (number : ℕ) (block : FileBlock) (f : Fields) → record_of p number ≡ Some f
      → IsFileBlock block → IsLocked (key_of number (version_of p number) (code_of block)) p.cache
      → IsWithin block f.attributes.size

-- A record waits, in place of any other of its number. Nothing else changed.
pub record StagesRecord (v : Inode) (old new : Parts) : Type 0 where
  pub log : new.log ≡ old.log
  pub cache : new.cache ≡ old.cache
  pub waiting : new.waiting ≡ v ∷ without v.number old.waiting
  pub here : record_of new v.number ≡ Some (fields_of v)
  pub others : (n : ℕ) → n ≢ v.number → record_of new n ≡ record_of old n

-- The frames that wait are those that waited, and one of this key; it is one more where it is new. No block is clean
-- that wasn't.
pub record GrowsBy (key : Key) (old new : Parts) : Type 0 where
  pub formed : IsContents new.cache
  pub clean : GainsNoClean old.cache new.cache
  pub here : IsLocked key new.cache
  pub kept : (other : Key) → IsLocked other old.cache → IsLocked other new.cache
  pub only : (other : Key) → IsLocked other new.cache → (other ≡ key) ⊎ IsLocked other old.cache
  pub one_more : length new.cache.locked ≤ length old.cache.locked + 1
  pub none_more : IsLocked key old.cache → length new.cache.locked ≡ length old.cache.locked

-- Bytes wait for a block of a number. Nothing else changed.
pub record StagesBlock (number : ℕ) (block : FileBlock) (bytes : List ℕ)
    (old new : Parts) : Type 0 where
  pub log : new.log ≡ old.log
  pub waiting : new.waiting ≡ old.waiting
  pub staged : Stages (tree_of old number) (tree_of new number) (way_to block) bytes
  pub others : (n : ℕ) → n ≢ number → tree_of new n ≡ tree_of old n
  pub frames : GrowsBy (key_of number (version_of old number) (code_of block)) old new

-- Each number has the record, the addresses and the bytes that it had.
pub record SameFiles (old new : Parts) : Type 0 where
  pub log : new.log ≡ old.log
  pub records : (n : ℕ) → record_of new n ≡ record_of old n
  pub readings : (n : ℕ) → SameReadings (tree_of old n) (tree_of new n)

-- The parents of a block of a number wait: the record, and what holds the block's address.
pub record HasParents (p : Parts) (number : ℕ) (block : FileBlock) : Type 0 where
  pub record_waits : IsSome (waiting_in p.waiting number)
  pub holder_waits : HolderWaits p.cache number (version_of p number) (way_to (table_of block))

-- each key that waits is of one of some codes of a number, or waited
abbrev pub TakesOnly : ℕ → ℕ → List ℕ → Contents → Contents → Type 0
TakesOnly number version codes old new =
    (key : Key) → IsLocked key new
    → ((code : ℕ) × Contains codes code × (key ≡ key_of number version code))
    ⊎ IsLocked key old

-- A data block of the file with this record may wait: it is the record of a number in use, and there is room for it.
pub record MayStage (p : Parts) (v : Inode) : Type 0 where
  pub files : AreFiles p
  pub parents : ParentsWait p
  pub inside : LiesIn (blocks_of p) (tree_of p v.number)
  pub in_range : v.number < length p.log.tables.rows
  pub in_use : (row_of p.log.tables v.number).used ≡ true
  pub here : record_of p v.number ≡ Some (fields_of v)
  pub records : length (without v.number p.waiting) < WAITING_LIMIT

-- There are frames for the blocks of some codes of a number: whichever of them come to wait, each other one finds a
-- frame.
pub record HasFrames (p : Parts) (number : ℕ) (codes : List ℕ) : Type 0 where
  pub each : (c : Contents) → IsContents c → TakesOnly number (version_of p number) codes p.cache c
      → (code : ℕ) → Contains codes code → IsLocked (key_of number (version_of p number) code) c
      ⊎ (length c.locked < LOCKED_LIMIT)

-- some bytes may be data block `index` of a file of this size: they are zeros past it
abbrev pub IsZeroPast : ℕ → ℕ → List ℕ → Type 0
IsZeroPast size index bytes = (k : ℕ) → k < BLOCK_SIZE → size ≤ BLOCK_SIZE * index + k
    → slice_index bytes k ≡ 0

-- The record of a number waits, with what it had, and each file is what it was.
pub record StagesOwnRecord (number : ℕ) (old new : Parts) : Type 0 where
  pub same : SameFiles old new
  pub cache : new.cache ≡ old.cache
  pub files : AreFiles new
  pub parents : ParentsWait new
  pub waits : IsSome (waiting_in new.waiting number)
  pub room : without number new.waiting ≡ without number old.waiting
  pub once : AreOnce old.waiting → AreOnce new.waiting

-- The parents of a block of a number wait, with what they had, and each file is what it was.
pub record StagesParents (number : ℕ) (block : FileBlock) (old new : Parts) : Type 0 where
  pub same : SameFiles old new
  pub files : AreFiles new
  pub parents : ParentsWait new
  pub waits : HasParents new number block
  pub room : without number new.waiting ≡ without number old.waiting
  pub once : AreOnce old.waiting → AreOnce new.waiting
  pub stays : (key : Key) → IsLocked key old.cache → IsLocked key new.cache
  pub takes : TakesOnly number (version_of old number)
      (codes_on (way_to (table_of block))) old.cache new.cache

-- A block of a number was staged with its parents: what waits more is on its way.
pub record TakesFrames (number : ℕ) (block : FileBlock) (old new : Parts) : Type 0 where
  pub waits : HasParents new number block
  pub stays : (key : Key) → IsLocked key old.cache → IsLocked key new.cache
  pub takes : TakesOnly number (version_of old number) (codes_on (way_to block)) old.cache new.cache
  pub records : without number new.waiting ≡ without number old.waiting
  pub block_waits : IsLocked (key_of number (version_of new number) (code_of block)) new.cache

-- A block of a number waits with what it has, and so do its parents; each file is what it was.
pub record StagesTable (number : ℕ) (block : FileBlock) (old new : Parts) : Type 0 where
  pub same : SameFiles old new
  pub files : AreFiles new
  pub parents : ParentsWait new
  pub once : AreOnce old.waiting → AreOnce new.waiting
  pub takes : TakesFrames number block old new

-- Bytes wait for a data block of a number: it reads as these bytes, and every other data block, every record and every
-- address is what it was.
pub record StagesData (number index : ℕ) (bytes : List ℕ) (old new : Parts) : Type 0 where
  pub log : new.log ≡ old.log
  pub records : (n : ℕ) → record_of new n ≡ record_of old n
  pub here : data_block (tree_of new number) index ≡ bytes
  pub others : (n m : ℕ) → (n ≢ number) ⊎ (m ≢ index)
      → data_block (tree_of new n) m ≡ data_block (tree_of old n) m
  pub addresses : (n : ℕ) (way : List ℕ) → IsBlockWay way
      → address (tree_of new n) way ≡ address (tree_of old n) way
  pub takes : TakesFrames number (Data index) old new
