-- What holds of the parts of a store.
use Rattle.std.specs.Prelude.{◌≡◌, ◌≢◌, ℕ, ◌<◌, ◌≤◌, List, [], ◌∷◌, Some, IsSome, true, false, All, length, ⊤}
use Rattle.lfs_types.specs.declared.limits.TheConstants.{FIRST_INODE, ROOT_INODE}
use Rattle.lfs_segments.specs.Log.{Expects}
use Rattle.lfs_segments.specs.Memory.{block_at}
use Rattle.lfs_ifile.specs.Tables.{row_of}
use Rattle.lfs_inodes.specs.declared.inode.Inode.{Inode}
use Rattle.lfs_inodes.specs.Facts.{block_count}
use Rattle.lfs_inodes.specs.Reading.{Fields, AreFields}
use Rattle.lfs_cache.specs.declared.key.Key.{Key}
use Rattle.lfs_cache.specs.Changes.{IsContents}
use Rattle.lfs_cache.specs.Contents.{Contents, IsLocked, block_in}
use Rattle.lfs_log.specs.Parts.{IsParts}
use Rattle.lfs_bmap.specs.declared.blocks.FileBlock.{FileBlock}
use Rattle.lfs_bmap.specs.Blocks.{IsFileBlock, code_of, first_under, way_to}
use Rattle.lfs_bmap.specs.Log.{IsLog}
use Rattle.lfs_bmap.specs.Pieces.{IsPadded}
use Rattle.lfs_bmap.specs.Reading.{address, data_block}
use Rattle.lfs_bmap.specs.Ways.{code_at, way_of}
use Rattle.lfs_parts.specs.declared.records.TheConstants.{WAITING_LIMIT}
use Rattle.lfs_parts.specs.declared.parts.Parts.{Parts}
use Rattle.lfs_parts.specs.Keys.{log_state}
use Rattle.lfs_parts.specs.View.{key_of, record_of, tree_of, version_of, waiting_in}
use Rattle.lfs_parts.specs.Waiting.{AreOnce}

-- a file of this size can have the block, which isn't its record: the first data block that it leads to lies below the
-- size
abbrev pub IsWithin : FileBlock → ℕ → Type 0
IsWithin block size = first_under block < block_count size

-- the code of a block of a file that isn't its record
pub record IsBlockCode (code : ℕ) : Type 0 where
  pub block : FileBlock
  pub is : IsFileBlock block
  pub coded : code_of block ≡ code
  pub other : code ≢ 0

-- a number in use, at the version that it has
pub record IsPresent (p : Parts) (number version : ℕ) : Type 0 where
  pub in_use : (row_of p.log.tables number).used ≡ true
  pub at_version : version ≡ version_of p number

-- A clean block that is held is what the log has for its key, a block of a number in use, which has an address.
pub record IsLogged (p : Parts) (key : Key) (bytes : List ℕ) : Type 0 where
  pub present : IsPresent p key.ino key.version
  pub coded : IsBlockCode key.lbn.0
  pub somewhere : address (tree_of p key.ino) (way_of key.lbn.0) ≢ 0
  pub same : bytes ≡ block_at p.log.memory (address (tree_of p key.ino) (way_of key.lbn.0))

-- each clean block that is held is what the log has
pub record Mirrors (p : Parts) : Type 0 where
  pub each : (key : Key) (bytes : List ℕ) → block_in key p.cache.lru ≡ Some bytes → IsLogged p key bytes

-- what holds of the record of a number: it is well formed and says the number and its version; blocks past the size
-- have no address, and bytes past it are zero
pub record IsFile (p : Parts) (number : ℕ) (f : Fields) : Type 0 where
  pub formed : AreFields f
  pub own_number : f.attributes.number ≡ number
  pub own_version : f.attributes.version ≡ version_of p number
  pub none_past : (block : FileBlock) → IsFileBlock block → block_count f.attributes.size ≤ first_under block
      → address (tree_of p number) (way_to block) ≡ 0
  pub padded : IsPadded (data_block (tree_of p number)) f.attributes.size

-- What holds of the files and of what waits: the parts are each well formed and of one volume; of the numbers below 4
-- none but the root's is in use; each number in use has a record; what waits is of a number in use, at its present
-- version; what is clean in the cache is what the log has.
pub record AreFiles (p : Parts) : Type 0 where
  pub parts : IsParts p.log
  pub cache : IsContents p.cache
  pub reserved : (number : ℕ) → number < FIRST_INODE → number ≢ ROOT_INODE → (row_of p.log.tables number).used ≡ false
  pub recorded : (number : ℕ) → (row_of p.log.tables number).used ≡ true → IsSome (record_of p number)
  pub files : (number : ℕ) (f : Fields) → record_of p number ≡ Some f → IsFile p number f
  pub records : All (λ (v : Inode). IsPresent p v.number v.version) p.waiting
  pub frames : (key : Key) → IsLocked key p.cache → IsPresent p key.ino key.version
  pub coded : (key : Key) → IsLocked key p.cache → IsBlockCode key.lbn.0
  pub mirrors : Mirrors p

-- The block at a way of a number waits, which holds addresses. The record, at the empty way, is asked elsewhere.
abbrev pub HolderWaits : Contents → ℕ → ℕ → List ℕ → Type 0
HolderWaits c number version [] = ⊤
HolderWaits c number version (i ∷ up) = IsLocked (key_of number version (code_at (i ∷ up))) c

-- Where a block waits, its parents do: the record of its number, and the block that holds its address.
pub record ParentsWait (p : Parts) : Type 0 where
  pub records : (key : Key) → IsLocked key p.cache → IsSome (waiting_in p.waiting key.ino)
  pub holders : (key : Key) → IsLocked key p.cache → (i : ℕ) (up : List ℕ) → way_of key.lbn.0 ≡ i ∷ up
      → HolderWaits p.cache key.ino key.version up

-- What holds between the calls of a store: of its files, of its log, which goes on with a summary, and of what waits.
pub record IsStore (p : Parts) : Type 0 where
  pub whole : AreFiles p
  pub log : IsLog (log_state p) 0
  pub ready : Expects p.log.memory []
  pub parents : ParentsWait p
  pub once : AreOnce p.waiting
  pub few : length p.waiting ≤ WAITING_LIMIT
  pub within : (number : ℕ) (block : FileBlock) (f : Fields) → record_of p number ≡ Some f → IsFileBlock block
      → IsLocked (key_of number (version_of p number) (code_of block)) p.cache → IsWithin block f.attributes.size

-- nothing waits to be written
pub record IsFlushed (p : Parts) : Type 0 where
  pub no_record : p.waiting ≡ []
  pub no_frame : p.cache.locked ≡ []
