-- What a store's content shows as a world.
use Rattle.std.specs.Prelude.{◌≡◌, ◌≢◌, ℕ, zero, suc, ◌+◌, ◌*◌, ◌/◌, ◌%◌, ◌<◌, List, [], ◌++◌, length, take, drop}
use Rattle.std.specs.Prelude.{Option, None, Some, IsSome, IsSomeAnd, option_map}
use Rattle.std.specs.FinMap as map
use Rattle.lfs_types.specs.declared.limits.TheConstants.{FILE_BLOCKS, FILE_BYTES}
use Rattle.lfs_types.specs.declared.block.TheConstants.{BLOCK_SIZE}
use Rattle.lfs_types.specs.Changes.{IsLength}
use Rattle.lfs_types.specs.Stored.{bytes_of}
use Rattle.lfs_types.specs.Tree.{File, Row, World, Content}
use Rattle.lfs_types.specs.declared.attrs.Kind.{Kind}
use Rattle.lfs_types.specs.declared.attrs.Kind.TheVariants.{File as Regular, Directory}
use Rattle.lfs_dirs.specs.Directory.{Entry, IsDirectoryBlock, AreEntries, number_in, used_of, without}
use Rattle.lfs_dirs.specs.Reading.{entries_of}
use Rattle.lfs_model.specs.World.{Rows, child}

-- a block of a directory's bytes
abbrev pub block_at : List ℕ → ℕ → List ℕ
block_at bytes k = take BLOCK_SIZE (drop (BLOCK_SIZE * k) bytes)

-- the entries of the first blocks of a directory's bytes, so many of them
unfoldable pub entries_below : List ℕ → ℕ → List Entry
entries_below bytes zero = []
entries_below bytes (suc k) = entries_below bytes k ++ entries_of (block_at bytes k)

-- the entries of a directory's bytes
abbrev pub all_entries : List ℕ → List Entry
all_entries bytes = entries_below bytes (length bytes / BLOCK_SIZE)

-- each block of a directory's bytes is a directory block
abbrev pub AreBlocks : List ℕ → Type 0
AreBlocks bytes = (k : ℕ) → k < length bytes / BLOCK_SIZE
    → IsDirectoryBlock (block_at bytes k) (entries_of (block_at bytes k))

-- a number is used by a file of this size, in whole blocks
pub record HasBlocks (c : Content) (n size : ℕ) : Type 0 where
  pub used : IsSome (map.get c n)
  pub sized : size ≡ length (bytes_of c n)
  pub whole : size % BLOCK_SIZE ≡ 0

-- A directory's bytes list the rows that hang in it: each block is a directory block, no name stands twice, and
-- a name's entry has the number of the row that hangs there under that name.
pub record ListsRows (rows : Rows) (parent : ℕ) (bytes : List ℕ) : Type 0 where
  pub blocks : AreBlocks bytes
  pub distinct : AreEntries (all_entries bytes)
  pub names : (name : List ℕ) → number_in name (all_entries bytes) ≡ child rows parent name

-- what users see of a file's bytes: of a directory none
abbrev pub visible_bytes : Kind → List ℕ → List ℕ
visible_bytes Regular bytes = bytes
visible_bytes Directory bytes = []

-- what users see of a file
abbrev pub visible : File → File
visible f = record f { bytes = visible_bytes f.kind f.bytes }

-- A store's content shows a world: numbers and attributes agree, a file's bytes are its row's, each file has a
-- length that its kind may have, and the bytes of each directory list the rows that hang in it.
pub record Shows (c : Content) (w : World) : Type 0 where
  pub files : (n : ℕ) → option_map visible (map.get c n)
      ≡ option_map (λ (r : Row). r.file) (map.get w.rows n)
  pub sizes : (n : ℕ) (f : File) → map.get c n ≡ Some f → IsLength f.kind (length f.bytes)
  pub listings : (n : ℕ) (f : File) → map.get c n ≡ Some f → f.kind ≡ Directory
      → ListsRows w.rows n f.bytes

-- A number has a directory. But for one number, each directory has the bytes that it had; one that is new has none.
abbrev pub IsDirectoryAt : Content → ℕ → Type 0
IsDirectoryAt c n = IsSomeAnd (map.get c n) (λ f. f.kind ≡ Directory)

abbrev pub KeepsOthers : ℕ → Content → Content → Type 0
KeepsOthers dir old new = (n : ℕ) → n ≢ dir → IsDirectoryAt new n → bytes_of new n ≡ bytes_of old n

-- each directory has the bytes that it had
abbrev pub KeepsDirectories : Content → Content → Type 0
KeepsDirectories old new = (n : ℕ) → IsDirectoryAt new n → bytes_of new n ≡ bytes_of old n

-- entries without that of a name, if one is given
abbrev pub left_of : Option (List ℕ) → List Entry → List Entry
left_of None es = es
left_of (Some name) es = without name es

-- a new name fits in no block of a directory, from which a name was taken away or none, and which has all the blocks
-- that it may have
pub record FitsNowhere (bytes : List ℕ) (taken : Option (List ℕ)) (name : List ℕ) : Type 0 where
  pub whole : length bytes ≡ FILE_BYTES
  pub full : (k : ℕ) → k < FILE_BLOCKS
      → BLOCK_SIZE < used_of (left_of taken (entries_of (block_at bytes k))) + 5 + length name
