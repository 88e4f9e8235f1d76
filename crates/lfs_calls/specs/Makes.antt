-- What judging and making a new row come to, over a store.
use Rattle.std.specs.Prelude.{◌≡◌, ◌≢◌, ℕ, ◌+◌, ◌*◌, ◌/◌, ◌%◌, ◌<◌, ◌≤◌, true, List, [], ◌∷◌, ◌++◌, length, Option}
use Rattle.std.specs.Prelude.{None, Some, IsSomeAnd, IfSome}
use Rattle.std.specs.Borrow.{Bor}
use Rattle.std.specs.FinMap as map
use Rattle.lfs_types.specs.declared.limits.TheConstants.{FILE_BLOCKS, FILE_BYTES}
use Rattle.lfs_types.specs.declared.block.TheConstants.{BLOCK_SIZE}
use Rattle.lfs_types.specs.Kinds.{is_directory_kind}
use Rattle.lfs_types.specs.Splicing.{splice}
use Rattle.lfs_types.specs.StoreStates.{StoreState}
use Rattle.lfs_types.specs.Stored.{bytes_of, shown_attrs}
use Rattle.lfs_types.specs.Tree.{File, Content, root}
use Rattle.lfs_types.specs.declared.attrs.Kind.{Kind}
use Rattle.lfs_types.specs.declared.attrs.Kind.TheVariants.{File as Regular, Directory}
use Rattle.lfs_types.specs.declared.request.Request.{Request}
use Rattle.lfs_types.specs.declared.request.Request.TheVariants.{Create, Mkdir}
use Rattle.lfs_dirs.specs.Directory.{IsDirectoryBlock, number_in, used_of}
use Rattle.lfs_dirs.specs.Reading.{entries_of}
use Rattle.lfs_calls.specs.declared.directory.DirBlock.{DirBlock}
use Rattle.lfs_calls.specs.declared.walking.Reached.{Reached}
use Rattle.lfs_model.specs.World.{Rows, child}
use Rattle.lfs_model.specs.Rules.{front, last, reached}
use Rattle.lfs_calls.specs.Content.{AreBlocks, HasBlocks, KeepsOthers, all_entries, block_at}

-- a directory that a path's names before the last lead to, and that hasn't the last name, as the store shows it
pub record IsParent (c : Content) (rows : Rows) (path : List (List ℕ))
    (dir : Reached) : Type 0 where
  pub some : 0 < length path
  pub object : reached rows root (front path) ≡ dir.number
  pub shown : Some dir.attrs ≡ shown_attrs c dir.number
  pub directory : is_directory_kind dir.attrs.kind ≡ true
  pub free : child rows dir.number (last path) ≡ None

-- the request that makes an empty file of this kind
abbrev pub request_for : Kind → List (List ℕ) → ℕ → Request
request_for Regular path mode = Create path mode
request_for Directory path mode = Mkdir path mode

-- a block of a directory's bytes, or one at their end, with an entry more; the name fits in none before it
pub record IsRoom (bytes : List ℕ) (number : ℕ) (name : List ℕ) (room : DirBlock) (k : ℕ) : Type 0 where
  pub off : room.off ≡ BLOCK_SIZE * k
  pub within : k ≤ length bytes / BLOCK_SIZE
  pub fits : k < FILE_BLOCKS
  pub block : IsDirectoryBlock room.block (entries_of room.block)
  pub adds : entries_of room.block ≡ entries_of (block_at bytes k) ++ (number, name) ∷ []
  pub first : (j : ℕ) → j < k → BLOCK_SIZE
      < used_of (entries_of (block_at bytes j)) + 5 + length name

-- a block may be read in place of one of a directory's bytes
pub record StandsIn (bytes : List ℕ) (room : DirBlock) : Type 0 where
  pub aligned : room.off % BLOCK_SIZE ≡ 0
  pub within : room.off < length bytes
  pub size : length room.block ≡ BLOCK_SIZE

-- a block that stands before that of an index, with an entry more
pub record IsRoomIn (seen : DirBlock) (first number : ℕ) (name : List ℕ) (room : DirBlock) : Type 0 where
  pub off : room.off ≡ seen.off
  pub before : seen.off / BLOCK_SIZE < first
  pub block : IsDirectoryBlock room.block (entries_of room.block)
  pub adds : entries_of room.block ≡ entries_of seen.block ++ (number, name) ∷ []

-- a directory's bytes, with a block read in place of the stored one, if one is given
abbrev pub with_block : List ℕ → Option (Bor DirBlock) → List ℕ
with_block bytes None = bytes
with_block bytes (Some room) = splice bytes room.now.off room.now.block

-- a directory of this size, in one of whose blocks another may be read, may get a name that it doesn't list, for a
-- number
pub record CanEnter (c : Content) (dir size : ℕ) (taken : Option (Bor DirBlock)) (name : List ℕ)
    (number : ℕ) : Type 0 where
  pub stored : HasBlocks c dir size
  pub bounded : size ≤ FILE_BYTES
  pub stands : IfSome taken (λ room. StandsIn (bytes_of c dir) room.now)
  pub blocks : AreBlocks (with_block (bytes_of c dir) taken)
  pub above : 0 < number
  pub free : number_in name (all_entries (with_block (bytes_of c dir) taken)) ≡ None

-- a block of a directory's bytes, or one at their end
pub record IsBlockOf (c : Content) (dir : ℕ) (room : DirBlock) : Type 0 where
  pub directory : IsSomeAnd (map.get c dir)
      (λ f. (f.kind ≡ Directory) × (length f.bytes % BLOCK_SIZE ≡ 0) × (length f.bytes ≤ FILE_BYTES)
      × (room.off ≤ length f.bytes))
  pub aligned : room.off % BLOCK_SIZE ≡ 0
  pub fits : room.off < FILE_BYTES
  pub size : length room.block ≡ BLOCK_SIZE

-- a file may be made under a number, and a block be written that lists it in a directory
pub record CanMake (s : StoreState) (number dir : ℕ) (room : DirBlock) : Type 0 where
  pub above : 4 ≤ number
  pub within : number < s.shape.numbers
  pub unused : map.get s.content number ≡ None
  pub block : IsBlockOf s.content dir room

-- the content after a file was made and a block of its directory was written; all other files stay
pub record MakesFile (old new : Content) (number : ℕ) (file : File) (dir : ℕ) (off : ℕ)
    (block : List ℕ) : Type 0 where
  pub made : map.get new number ≡ Some file
  pub listed : (f : File) → map.get old dir ≡ Some f → map.get new dir
      ≡ Some (record f { bytes = splice f.bytes off block })
  pub others : (q : ℕ) → q ≢ number → q ≢ dir → map.get new q ≡ map.get old q

-- A directory's bytes list a new name: its entry stands in the first block where it fits, or else in a new one at the
-- end, and all other blocks are what they were.
abbrev pub ListsFirst : List ℕ → List ℕ → List ℕ → Type 0
ListsFirst old new name =
    (number : ℕ) × (room : DirBlock) × (k : ℕ)
    × (IsRoom old number name room k × (new ≡ splice old room.off room.block))

-- the directory of a new path's last name lists it so, and all other directories keep their bytes
abbrev pub EntersFirst : Content → Content → Rows → List (List ℕ) → Type 0
EntersFirst old new rows path =
    let dir = reached rows root (front path) in
    ListsFirst (bytes_of old dir) (bytes_of new dir) (last path) × KeepsOthers dir old new
