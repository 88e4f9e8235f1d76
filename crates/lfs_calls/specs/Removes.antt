-- What judging and taking away a name come to, over a store.
use Rattle.std.specs.Prelude.{◌≡◌, ◌≢◌, ℕ, ◌*◌, ◌/◌, ◌<◌, ◌≤◌, Bool, true, List, length, None, Some, IsSome}
use Rattle.std.specs.FinMap as map
use Rattle.lfs_types.specs.declared.block.TheConstants.{BLOCK_SIZE}
use Rattle.lfs_types.specs.declared.limits.TheConstants.{FILE_BYTES}
use Rattle.lfs_types.specs.Kinds.{is_directory_kind}
use Rattle.lfs_types.specs.Splicing.{splice}
use Rattle.lfs_types.specs.Stored.{shown_attrs, bytes_of}
use Rattle.lfs_types.specs.Tree.{File, Content, root}
use Rattle.lfs_types.specs.declared.attrs.Attrs.{Attrs}
use Rattle.lfs_types.specs.declared.attrs.Kind.{Kind}
use Rattle.lfs_types.specs.declared.attrs.Kind.TheVariants.{File as Regular, Directory}
use Rattle.lfs_types.specs.declared.request.Request.{Request}
use Rattle.lfs_types.specs.declared.request.Request.TheVariants.{Unlink, Rmdir}
use Rattle.lfs_dirs.specs.Directory.{IsDirectoryBlock, number_in, without}
use Rattle.lfs_dirs.specs.Reading.{entries_of}
use Rattle.lfs_calls.specs.declared.directory.DirBlock.{DirBlock}
use Rattle.lfs_calls.specs.declared.removing.Removal.{Removal}
use Rattle.lfs_model.specs.World.{Rows, child}
use Rattle.lfs_model.specs.Rules.{Check, front, last, reached, rmdir_tests, unlink_tests}
use Rattle.lfs_calls.specs.Content.{AreBlocks, HasBlocks, KeepsOthers, all_entries, block_at}

-- the request that removes a file, or an empty directory, as the kind says
abbrev pub removal_request : Kind → List (List ℕ) → Request
removal_request Regular path = Unlink path
removal_request Directory path = Rmdir path

-- the tests of what is removed as one of this kind, which may be empty, at component k
abbrev pub removed_tests : Kind → Bool → Attrs → ℕ → List Check
removed_tests Regular empty file k = unlink_tests file k
removed_tests Directory empty dir k = rmdir_tests empty dir k

-- the row that a path leads to, and its directory, as the store shows them
pub record IsRemoval (c : Content) (rows : Rows) (path : List (List ℕ))
    (removal : Removal) : Type 0 where
  pub some : 0 < length path
  pub object : reached rows root (front path) ≡ removal.dir.number
  pub row : reached rows root path ≡ removal.file.number
  pub hangs : child rows removal.dir.number (last path) ≡ Some removal.file.number
  pub shown_dir : Some removal.dir.attrs ≡ shown_attrs c removal.dir.number
  pub shown_file : Some removal.file.attrs ≡ shown_attrs c removal.file.number
  pub directory : is_directory_kind removal.dir.attrs.kind ≡ true

-- nothing hangs in a row
abbrev pub IsChildless : Rows → ℕ → Type 0
IsChildless rows n = (name : List ℕ) → child rows n name ≡ None

-- such a row, in which nothing hangs
pub record IsRemovable (c : Content) (rows : Rows) (path : List (List ℕ))
    (removal : Removal) : Type 0 where
  pub is : IsRemoval c rows path removal
  pub childless : IsChildless rows removal.file.number

-- a row hangs in a directory under a name, and the store shows both
pub record HangsAs (c : Content) (rows : Rows) (removal : Removal) (name : List ℕ) : Type 0 where
  pub hangs : child rows removal.dir.number name ≡ Some removal.file.number
  pub shown_dir : Some removal.dir.attrs ≡ shown_attrs c removal.dir.number
  pub shown_file : Some removal.file.attrs ≡ shown_attrs c removal.file.number
  pub directory : is_directory_kind removal.dir.attrs.kind ≡ true

-- a directory of this size lists a name in one of its blocks
pub record ListsName (c : Content) (dir size : ℕ) (name : List ℕ) : Type 0 where
  pub stored : HasBlocks c dir size
  pub bounded : size ≤ FILE_BYTES
  pub blocks : AreBlocks (bytes_of c dir)
  pub listed : IsSome (number_in name (all_entries (bytes_of c dir)))

-- the block of a directory's bytes that lists a name, without it
pub record IsTaking (bytes : List ℕ) (name : List ℕ) (room : DirBlock) (k : ℕ) : Type 0 where
  pub off : room.off ≡ BLOCK_SIZE * k
  pub within : k < length bytes / BLOCK_SIZE
  pub listed : IsSome (number_in name (entries_of (block_at bytes k)))
  pub block : IsDirectoryBlock room.block (entries_of room.block)
  pub takes : entries_of room.block ≡ without name (entries_of (block_at bytes k))

-- the content after a file was removed and a block of its directory was written; all other files stay
pub record TakesFile (old new : Content) (number dir off : ℕ) (block : List ℕ) : Type 0 where
  pub gone : map.get new number ≡ None
  pub listed : (f : File) → map.get old dir ≡ Some f → map.get new dir
      ≡ Some (record f { bytes = splice f.bytes off block })
  pub others : (q : ℕ) → q ≢ number → q ≢ dir → map.get new q ≡ map.get old q

-- the content after a row was taken away: the block that lists its name was written without it, and its file removed
abbrev pub TakesRow : Content → Content → Removal → List ℕ → Type 0
TakesRow old new removal name =
    (room : DirBlock) × (k : ℕ) × (IsTaking (bytes_of old removal.dir.number) name room k
    × TakesFile old new removal.file.number removal.dir.number room.off room.block)

-- A directory's bytes list a name no more: the block that listed it was written without it, closed up, and all other
-- blocks, and how many there are, are what they were.
abbrev pub ListsNoMore : List ℕ → List ℕ → List ℕ → Type 0
ListsNoMore old new name = (room : DirBlock) × (k : ℕ)
    × (IsTaking old name room k × (new ≡ splice old room.off room.block))

-- the directory of a path's last name lists it no more, and all other directories keep their bytes
abbrev pub ClosesUp : Content → Content → Rows → List (List ℕ) → Type 0
ClosesUp old new rows path =
    let dir = reached rows root (front path) in
    ListsNoMore (bytes_of old dir) (bytes_of new dir) (last path) × KeepsOthers dir old new
