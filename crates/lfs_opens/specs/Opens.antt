-- Files that are open, and what is kept of those that were removed meanwhile.
use Rattle.std.specs.Prelude.{◌≡◌, ℕ, ◌+◌, ◌-◌, ◌*◌, ◌/◌, ◌<◌, ◌==◌, ◌&&◌, min, if◌then◌else◌, Bool, false}
use Rattle.std.specs.Prelude.{List, [], ◌∷◌, length, Option, None, Some, option_map, slice_index_or, slice_set}
use Rattle.std.specs.Prelude.{Result, Ok, Err}
use Rattle.lfs_types.specs.Caller.{Caller}
use Rattle.lfs_types.specs.Stored.{slice_of}
use Rattle.lfs_fuse_wire.specs.declared.attributes.Time.{Time}
use Rattle.lfs_fuse_wire.specs.declared.flags.AccessMode.{AccessMode}
use Rattle.lfs_fuse_wire.specs.Said.{Said, create, getattr, opening, read, release, setattr, write}
use Rattle.lfs_fuse_calls.specs.Asked.{reads, writes}
use Rattle.lfs_fuse_calls.specs.Telling.{TellsBytes, or_else}
use Rattle.lfs_fuse_calls.specs.declared.told.Told.{Told}
use Rattle.lfs_fuse_calls.specs.declared.told.Told.TheVariants as told
use Rattle.lfs_opens.specs.Rewritten.{LacksRoom, TellsCut, TellsWritten, attr_behind, end_of, new_size, part_of}
use Rattle.lfs_opens.specs.declared.kept.Kept.{Kept}
use Rattle.lfs_opens.specs.declared.kept.KeepingFault.{KeepingFault}
use Rattle.lfs_opens.specs.declared.kept.OpenFile.{OpenFile}

-- ---- handles

-- the slot of a handle, if it has one: the first two handles have none
abbrev pub slot_of : ℕ → Option ℕ
slot_of handle = if handle / 2 == 0 then None else Some (handle / 2 - 1)

-- the handle of a file that has a slot, or none
abbrev pub handle_of : Option ℕ → ℕ
handle_of None = 0
handle_of (Some slot) = 2 * (slot + 1)

abbrev pub file_at_slot : List (Option OpenFile) → Option ℕ → Option OpenFile
file_at_slot files None = None
file_at_slot files (Some slot) = slice_index_or files slot None

-- a slot in which no file is
abbrev pub IsFree : List (Option OpenFile) → ℕ → Type 0
IsFree files slot = (slot < length files) × (slice_index_or files slot None ≡ None)

-- a file is in each slot
abbrev pub AllAreTaken : List (Option OpenFile) → Type 0
AllAreTaken files = (slot : ℕ) → IsFree files slot → ⊥

-- no file is open
abbrev pub NoneIsOpen : List (Option OpenFile) → Type 0
NoneIsOpen files = (slot : ℕ) → slice_index_or files slot None ≡ None

-- the node on which the file of a slot is open
abbrev pub node_of : Option OpenFile → Option ℕ
node_of file = option_map (λ (f : OpenFile). f.node) file

-- ---- what is told of a file that was removed while it was open

-- what is kept of a file that the same user opened on this node
abbrev pub kept_of : Option OpenFile → ℕ → Caller → Option Kept
kept_of None node caller = None
kept_of (Some file) node caller =
    if (file.node == node) && (file.cred.uid == caller.uid) then file.kept else None

-- what is kept of the first of those
abbrev pub first_kept : List (Option OpenFile) → ℕ → Caller → Option Kept
first_kept [] node caller = None
first_kept (file ∷ files) node caller = or_else (kept_of file node caller) (first_kept files node caller)

-- whether the file of a slot is open for this use
abbrev pub is_open_to : (AccessMode → Bool) → Option OpenFile → Bool
is_open_to uses None = false
is_open_to uses (Some file) = uses file.access

-- what is kept of a file that the same user opened on this node for this use
abbrev pub kept_to : (AccessMode → Bool) → Option OpenFile → ℕ → Caller → Option Kept
kept_to uses file node caller = if is_open_to uses file then kept_of file node caller else None

-- what is kept of the first of those that is open to be written
abbrev pub first_to_write : List (Option OpenFile) → ℕ → Caller → Option Kept
first_to_write [] node caller = None
first_to_write (file ∷ files) node caller =
    or_else (kept_to writes file node caller) (first_to_write files node caller)

abbrev pub where_some : Option ℕ → Option Kept → Option Kept
where_some None kept = None
where_some (Some size) kept = kept

-- Reads and writes name their handle; attributes are asked for and set by the node alone, and nothing but the length
-- can be set.
abbrev pub kept_by : Said → List (Option OpenFile) → ℕ → Caller → Option Kept
kept_by (read fields) files node caller =
    kept_to reads (file_at_slot files (slot_of fields.handle)) node caller
kept_by (write fields bytes) files node caller =
    kept_to writes (file_at_slot files (slot_of fields.handle)) node caller
kept_by (getattr fields) files node caller = first_kept files node caller
kept_by (setattr fields) files node caller =
    where_some (new_size fields) (first_to_write files node caller)
kept_by message files node caller = None

-- The bytes that are asked for, at most 131,072, or want of memory; how many were written, at most as many; the
-- attributes, or those behind a change of the length. A write or a change of the length may be refused: where the file
-- would be too large, or where room or memory lacks.
abbrev pub TellsKept : Time → Caller → ℕ → List (Option OpenFile) → Said → Kept → Told → Type 0
TellsKept now caller node files (read fields) kept reply =
    TellsBytes (slice_of kept.bytes.items fields.offset (min fields.size 131072)) reply
TellsKept now caller node files (write fields bytes) kept reply =
    let size = length kept.bytes.items in
    TellsWritten (LacksRoom (write fields bytes) node size files) (length (part_of bytes))
    (end_of (write fields bytes) size) reply
TellsKept now caller node files (setattr fields) kept reply =
    let size = length kept.bytes.items in
    let end = end_of (setattr fields) size in
    TellsCut (LacksRoom (setattr fields) node size files) (attr_behind now caller end kept.attr) end reply
TellsKept now caller node files message kept reply = reply ≡ told.Attr kept.attr

-- who opened the file of a slot, if that is open on this node
abbrev pub opener_of : Option OpenFile → ℕ → Option Caller
opener_of None node = None
opener_of (Some file) node = if file.node == node then Some file.cred else None

-- a slot, with this kept for its file, or this told of why nothing is
abbrev pub with_kept : Option Kept → Option KeepingFault → Option OpenFile → Option OpenFile
with_kept kept lack None = None
with_kept kept lack (Some file) = Some (record file { kept = kept; lack = lack })

-- a slot, with what was seen of its file kept, or with why nothing was seen
abbrev pub with_seen : Result Kept KeepingFault → Option OpenFile → Option OpenFile
with_seen (Ok kept) file = with_kept (Some kept) None file
with_seen (Err lack) file = with_kept None (Some lack) file

-- why nothing is kept of the file of a slot, if a reason was told
abbrev pub lack_of : Option OpenFile → Option KeepingFault
lack_of None = None
lack_of (Some file) = file.lack

-- ---- what a message makes of the files that are open

-- nothing is kept of a file that is open on this node, and no reason is told: it wasn't removed
abbrev pub unkept : ℕ → Option OpenFile → Option OpenFile
unkept node None = None
unkept node (Some file) =
    if file.node == node then Some (record file { kept = None; lack = None }) else Some file

abbrev pub AreUnkept : ℕ → List (Option OpenFile) → List (Option OpenFile) → Type 0
AreUnkept node before after =
    (slot : ℕ) → slice_index_or after slot None ≡ unkept node (slice_index_or before slot None)

-- what was kept stays where the removal was done, and goes where it wasn't
abbrev pub AreKeptWhereDone : Option ℕ → Told → List (Option OpenFile) → List (Option OpenFile) → Type 0
AreKeptWhereDone None reply before after = after ≡ before
AreKeptWhereDone (Some node) told.Done before after = after ≡ before
AreKeptWhereDone (Some node) reply before after = AreUnkept node before after

-- the node of a file that was opened
abbrev pub opened_on : Said → ℕ → Told → Option ℕ
opened_on (create fields name) node (told.Create entry opened) = Some entry.node
opened_on (opening fields) node (told.Open opened) = Some node
opened_on message node reply = None

-- a file that was opened has a slot, if one was free; nothing is kept of it yet
abbrev pub opened_in : Option ℕ → Option ℕ → AccessMode → Caller → List (Option OpenFile)
    → List (Option OpenFile)
opened_in None opened access caller files = files
opened_in (Some slot) None access caller files = files
opened_in (Some slot) (Some node) access caller files =
    slice_set files slot
    (Some (record { node = node; cred = caller; access = access; kept = None; lack = None }))

-- a file that is closed has none, and with it goes what is kept
abbrev pub closed_at : Option ℕ → List (Option OpenFile) → List (Option OpenFile)
closed_at None files = files
closed_at (Some slot) files = slice_set files slot None

-- what a message makes of them, by what was told of it
abbrev pub AreLeft : Said → ℕ → Caller → Told → Option ℕ → Option ℕ → List (Option OpenFile)
    → List (Option OpenFile) → Type 0
AreLeft (release fields) node caller reply left slot before after =
    after ≡ closed_at (slot_of fields.handle) before
AreLeft (create fields name) node caller reply left slot before after =
    after ≡ opened_in slot (opened_on (create fields name) node reply) fields.flags.access caller before
AreLeft (opening fields) node caller reply left slot before after =
    after ≡ opened_in slot (opened_on (opening fields) node reply) fields.flags.access caller before
AreLeft message node caller reply left slot before after = AreKeptWhereDone left reply before after
