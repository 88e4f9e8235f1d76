-- Changes of a store's content, made one after another, and written all together.
use Rattle.std.specs.Prelude.{◌≡◌, ◌⊎◌, ◌||◌, ℕ, ◌+◌, ◌<◌, ◌≤◌, Bool, true, false, List, [], ◌∷◌, length}
use Rattle.std.specs.Prelude.{max, nat_lt, if◌then◌else◌, ◌==◌, sum_by, Option, None, Some}
use Rattle.std.specs.List.{Contains, list_any}
use Rattle.lfs_types.specs.Changes.{applied, changed}
use Rattle.lfs_types.specs.Stored.{bytes_of, shown_attrs}
use Rattle.lfs_types.specs.declared.attrs.Attrs.{Attrs}
use Rattle.lfs_types.specs.Tree.{Content}
use Rattle.lfs_types.specs.FlagNumbers.{is_part_of}
use Rattle.lfs_types.specs.declared.limits.TheConstants.{FILE_BYTES, SEGMENT_BLOCKS, TRANSFER_BYTES}
use Rattle.lfs_inodes.specs.Facts.{block_count}
use Rattle.lfs_segwrite.specs.Giving.{LeavesFinishable}
use Rattle.lfs_segwrite.specs.declared.room.TheConstants.{SPARE, USERS_SPARE}
use Rattle.lfs_types.specs.declared.store.Change.{Change}
use Rattle.lfs_types.specs.declared.store.Change.TheVariants.{Make, Remove, SetAttrs, Put, SetLength}
use Rattle.lfs_types.specs.declared.store.Reserve.{Reserve}
use Rattle.lfs_types.specs.declared.store.Reserve.TheVariants.{Users, Superuser}
use Rattle.lfs_segments.specs.Memory.{next_address, room_of}
use Rattle.lfs_parts.specs.declared.parts.Parts.{Parts}
use Rattle.lfs_staging.specs.Changing.{StaysInLog, frames_of, length_codes, records_of, version_after}
use Rattle.lfs_segwrite.specs.Collecting.{blocks_of_entries, entries_of, inode_blocks}
use Rattle.lfs_segwrite.specs.Flushing.{FlushesAhead, Waits, WritesAhead}
use Rattle.lfs_ifile.specs.Tables.{row_of}
use Rattle.lfs_cache.specs.Contents.{IsLocked}
use Rattle.lfs_cache.specs.declared.cache.TheConstants.{LOCKED_LIMIT}
use Rattle.lfs_cache.specs.declared.key.Key.{Key}
use Rattle.lfs_bmap.specs.declared.blocks.TheConstants.{BLOCK_CODES}
use Rattle.lfs_staging.specs.declared.cutting.TheConstants.{CUT_FRAMES}
use Rattle.lfs_parts.specs.declared.records.TheConstants.{WAITING_LIMIT}
use Rattle.lfs_parts.specs.View.{version_of, waiting_in}
use Rattle.lfs_staging.specs.Frames.{KeepsFrames}
use Rattle.lfs_parts.specs.Files.{content_of}
use Rattle.lfs_parts.specs.Keys.{log_state}
use Rattle.lfs_staging.specs.Staging.{IsStaged}
use Rattle.lfs_parts.specs.Store.{IsFlushed, IsStore}
use Rattle.lfs_staging.specs.Putting.{LeadsToPut, frames_of_put}

-- a change ends within the limit of a file, and puts no more bytes than one call brings
abbrev pub IsInReach : Change → Type 0
IsInReach (Make ino attrs) = Unit {0}
IsInReach (Remove ino) = Unit {0}
IsInReach (SetAttrs ino attrs) = Unit {0}
IsInReach (Put ino off bytes) = (length bytes.now ≤ TRANSFER_BYTES)
    × (0 < length bytes.now → off + length bytes.now ≤ FILE_BYTES)
IsInReach (SetLength ino len) = len ≤ FILE_BYTES

-- the frames that changes take at most
abbrev pub frames_of_all : List Change → ℕ
frames_of_all changes = sum_by frames_of changes

-- the records that they have wait at most
abbrev pub records_of_all : List Change → ℕ
records_of_all changes = sum_by records_of changes

-- the blocks that so many frames and records take in the log, with the summary before them; nothing takes none
abbrev pub blocks_for : ℕ → ℕ → ℕ
blocks_for frames records = if frames + inode_blocks records == 0 then 0
    else frames + inode_blocks records + 1

-- the blocks of the log that changes take at most
abbrev pub needs_of : List Change → ℕ
needs_of changes = blocks_for (frames_of_all changes) (records_of_all changes)

-- a change gives blocks back: it removes a file, or cuts one to fewer blocks
abbrev pub gives_back : Content → Change → Bool
gives_back c (Make ino attrs) = false
gives_back c (Remove ino) = true
gives_back c (SetAttrs ino attrs) = false
gives_back c (Put ino off bytes) = false
gives_back c (SetLength ino len) = nat_lt (block_count len) (block_count (length (bytes_of c ino)))

-- changes give blocks back
abbrev pub give_back : Content → List Change → Bool
give_back c changes = list_any (gives_back c) changes

-- flags are some of those that a file shows, and not all of them
abbrev pub are_fewer : ℕ → Option Attrs → Bool
are_fewer flags None = false
are_fewer flags (Some attrs) = is_part_of flags attrs.flags

-- a change takes flags away from a file, and gives it none
abbrev pub unlocks : Content → Change → Bool
unlocks c (Make ino attrs) = false
unlocks c (Remove ino) = false
unlocks c (SetAttrs ino attrs) = are_fewer attrs.flags (shown_attrs c ino)
unlocks c (Put ino off bytes) = false
unlocks c (SetLength ino len) = false

-- changes take flags away from a file
abbrev pub unlock : Content → List Change → Bool
unlock c changes = list_any (unlocks c) changes

-- Changes may use the room that is kept back: they give blocks back, or are the superuser's and take flags away.
abbrev pub may_use_reserve : Reserve → Content → List Change → Bool
may_use_reserve Users c changes = give_back c changes
may_use_reserve Superuser c changes = give_back c changes || unlock c changes

-- the version of a number after changes, in order
abbrev pub versions_after : List Change → ℕ → ℕ → ℕ
versions_after [] number version = version
versions_after (change ∷ changes) number version =
    versions_after changes number (version_after change number version)

-- the number that a change names
abbrev pub number_of : Change → ℕ
number_of (Make ino attrs) = ino
number_of (Remove ino) = ino
number_of (SetAttrs ino attrs) = ino
number_of (Put ino off bytes) = ino
number_of (SetLength ino len) = ino

-- a change may have the block of its number with a code wait: one that its bytes fall into, the one that its length
-- ends in, or an indirect block that leads there
abbrev pub MayHaveWait : Change → ℕ → Type 0
MayHaveWait (Make ino attrs) code = ⊥
MayHaveWait (Remove ino) code = ⊥
MayHaveWait (SetAttrs ino attrs) code = ⊥
MayHaveWait (Put ino off bytes) code = LeadsToPut off (length bytes.now) code
MayHaveWait (SetLength ino len) code = Contains (length_codes len) code

-- one of some changes may have the block of a number with a code wait
pub record OneMayHaveWait (changes : List Change) (number code : ℕ) : Type 0 where
  pub change : Change
  pub among : Contains changes change
  pub its : number ≡ number_of change
  pub may : MayHaveWait change code

-- one of some changes names a number
pub record OneNames (changes : List Change) (number : ℕ) : Type 0 where
  pub change : Change
  pub among : Contains changes change
  pub its : number ≡ number_of change

-- The parts are staged with this content and these versions, by at most so many frames and so many records more. What
-- waits waited, or is one of these blocks of numbers or a record of these numbers. Nothing was written.
pub record StagesTo (content : Content) (versions : ℕ → ℕ → ℕ) (frames records : ℕ)
    (blocks : ℕ → ℕ → Type 0) (numbers : ℕ → Type 0) (old new : Parts) : Type 0 where
  pub staged : IsStaged new 0
  pub content_is : content_of new ≡ content
  pub versions_are : (number : ℕ) → version_of new number ≡ versions number (version_of old number)
  pub log : StaysInLog old new
  pub frames_more : length new.cache.locked ≤ length old.cache.locked + frames
  pub records_more : length new.waiting ≤ length old.waiting + records
  pub frames_only : (key : Key) → IsLocked key new.cache
      → blocks key.ino key.lbn.0 ⊎ IsLocked key old.cache
  pub records_only : (number : ℕ) → (numbers number → ⊥) → waiting_in new.waiting number
      ≡ waiting_in old.waiting number

-- a change waits
abbrev pub StagesChange : Change → Parts → Parts → Type 0
StagesChange change old new = StagesTo (changed change (content_of old)) (version_after change)
    (frames_of change)
    (records_of change) (λ number code. (number ≡ number_of change) × MayHaveWait change code)
    (λ number. number ≡ number_of change) old new

-- changes wait, in order
abbrev pub StagesAll : List Change → Parts → Parts → Type 0
StagesAll changes old new = StagesTo (applied changes (content_of old)) (versions_after changes)
    (frames_of_all changes)
    (records_of_all changes) (OneMayHaveWait changes) (OneNames changes) old new

-- the blocks of the log that what waits takes, with the summary before them
abbrev pub waiting_blocks : Parts → ℕ
waiting_blocks p = blocks_of_entries (entries_of p)

-- What waits has room: the active segment has enough left for it, or one may be opened.
pub record HasRoom (p : Parts) : Type 0 where
  pub room : (waiting_blocks p ≤ room_of p.log.memory) ⊎ (0 < p.log.clean)

-- All that waited was written as one partial segment: where the log ended, or at the start of a segment that was opened
-- for it, where it had no room. The content is the same, nothing waits, and each key that did not wait has the place
-- that it had. The cache holds each block that it held, clean now. Where no segment was opened the active one stays.
pub record WritesWaiting (old new : Parts) : Type 0 where
  pub store : IsStore new
  pub flushed : IsFlushed new
  pub content : content_of new ≡ content_of old
  pub log : WritesAhead old new
  pub flush : FlushesAhead old new
  pub stays : new.log.clean ≡ old.log.clean → new.log.memory.active ≡ old.log.memory.active
  pub used : (number : ℕ) → (row_of new.log.tables number).used
      ≡ (row_of old.log.tables number).used
  pub versions : (number : ℕ) → version_of new number ≡ version_of old number
  pub still : (number code : ℕ) → number < length old.log.tables.rows → code < BLOCK_CODES
      → (Waits old number code → ⊥) → (log_state new).at number code
      ≡ (log_state old).at number code
  pub held : KeepsFrames old.cache new.cache
  pub left : ((next_address new.log.memory ≡ next_address old.log.memory + waiting_blocks old)
      × (room_of old.log.memory ≤ room_of new.log.memory + waiting_blocks old)
      × (new.log.clean ≡ old.log.clean))
      ⊎ ((SEGMENT_BLOCKS ≤ room_of new.log.memory + waiting_blocks old + 1)
      × (new.log.clean + 1 ≡ old.log.clean) × (room_of old.log.memory < waiting_blocks old))

-- the frames that a change takes at most while it is staged: a cut has more wait than it leaves waiting
abbrev pub peak_of : Change → ℕ
peak_of (Make ino attrs) = 0
peak_of (Remove ino) = CUT_FRAMES
peak_of (SetAttrs ino attrs) = 0
peak_of (Put ino off bytes) = if length bytes.now == 0 then 0
    else frames_of_put off (length bytes.now)
peak_of (SetLength ino len) = CUT_FRAMES

-- those that changes take at most, in order: to those of a change come those that the changes before it left waiting
abbrev pub peak_of_all : List Change → ℕ
peak_of_all [] = 0
peak_of_all (change ∷ changes) = max (peak_of change) (frames_of change + peak_of_all changes)

-- changes could have more wait than may wait
abbrev pub passes_limits : Parts → List Change → Bool
passes_limits p changes =
    nat_lt LOCKED_LIMIT (length p.cache.locked + peak_of_all changes)
    || nat_lt WAITING_LIMIT (length p.waiting + length changes)

-- There is room for so many blocks that are to be written for any changes: more than two segments are clean, or two,
-- and the blocks fit the active one.
abbrev pub HasRoomToTake : ℕ → Parts → Type 0
HasRoomToTake blocks p = (2 < p.log.clean) ⊎ ((p.log.clean ≡ 2) × (blocks ≤ room_of p.log.memory))

-- the blocks that stay to spare behind changes that use what is kept back: more behind users' than behind the
-- superuser's
abbrev pub spare_of : Reserve → ℕ
spare_of Users = USERS_SPARE
spare_of Superuser = SPARE

-- There is room for so many that are to be written for changes that may use what is kept back: more than one segment is
-- clean, or behind these blocks some segment can still be finished and leaves some to spare.
abbrev pub HasRoomToGive : Reserve → List Change → ℕ → Parts → Type 0
HasRoomToGive by changes blocks p =
    (1 < p.log.clean) ⊎ ((s : ℕ) × LeavesFinishable (spare_of by) changes blocks p s)

-- there is room for so many blocks that are to be written for changes
abbrev pub HasRoomForBlocks : Reserve → List Change → ℕ → Parts → Type 0
HasRoomForBlocks by changes blocks p =
    HasRoomToTake blocks p ⊎ ((may_use_reserve by (content_of p) changes ≡ true)
    × HasRoomToGive by changes blocks p)

-- there is room for what waits and for changes
abbrev pub HasRoomFor : Reserve → List Change → Parts → Type 0
HasRoomFor by changes p = HasRoomForBlocks by changes (waiting_blocks p + needs_of changes) p

-- There is room among what waits for changes: nothing was done, or what waited was written.
pub record MakesWay (changes : List Change) (old new : Parts) : Type 0 where
  pub store : IsStore new
  pub frames : length new.cache.locked + peak_of_all changes ≤ LOCKED_LIMIT
  pub records : length new.waiting + length changes ≤ WAITING_LIMIT
  pub either : ((passes_limits old changes ≡ false) × (new ≡ old))
      ⊎ ((passes_limits old changes ≡ true) × WritesWaiting old new)

-- What waited before them was written where with the changes more could wait than may, and nothing else was. Then all
-- the changes were made, in order, and wait, with nothing beside them: of blocks that didn't wait before only those
-- that they put bytes into or that a length ends in, and what leads there; of records only those of the numbers that
-- they name. A number that was made has the version behind its last, each other one the version that it had. One
-- segment was opened at most, and only where what waited had no room and the changes had some. Where the changes may
-- not use what is kept back, two segments stay clean, also once all that waits is written. Nothing was written where no
-- block waited and at most 60 records.
pub record MakesChanges (by : Reserve) (changes : List Change) (old new : Parts) : Type 0 where
  pub store : IsStore new
  pub room : HasRoom new
  pub content : content_of new ≡ applied changes (content_of old)
  pub versions : (number : ℕ) → version_of new number
      ≡ versions_after changes number (version_of old number)
  pub log : WritesAhead old new
  pub reserve : new.log.clean < old.log.clean → HasRoomFor by changes old
      × ((may_use_reserve by (content_of old) changes ≡ true) ⊎ (2 < old.log.clean))
  pub leaves : may_use_reserve by (content_of old) changes ≡ false → (last : Parts)
      → WritesWaiting new last → 2 ≤ last.log.clean
  pub opened : old.log.clean ≤ new.log.clean + 1
  pub enough : waiting_blocks old ≤ room_of old.log.memory → new.log.clean ≡ old.log.clean
  pub delayed : passes_limits old changes ≡ false → StaysInLog old new
  pub few : length old.cache.locked ≡ 0 → length old.waiting + 4 ≤ WAITING_LIMIT
      → StaysInLog old new
  pub between : Parts
  pub way : MakesWay changes old between
  pub stages : StagesAll changes between new
