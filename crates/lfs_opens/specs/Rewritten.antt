-- What a message makes of a file that was removed while it was open: of the bytes and attributes that are kept of it.
use Rattle.std.specs.Prelude.{◌≡◌, ℕ, ◌+◌, ◌-◌, ◌<◌, ◌≤◌, ◌==◌, ◌||◌, not, if◌then◌else◌, Bool, true, false, ⊤}
use Rattle.std.specs.Prelude.{List, [], ◌∷◌, length, take, Option, None, Some, is_some, option_map, slice_index_or}
use Rattle.std.specs.Vec.{vec_capacity}
use Rattle.lfs_types.specs.Caller.{Caller}
use Rattle.lfs_types.specs.Splicing.{splice, resized}
use Rattle.lfs_model.specs.Effects.{mode_after}
use Rattle.lfs_model.specs.Rules.{file_max, start_in}
use Rattle.lfs_fuse_wire.specs.Said.{Said, write, setattr}
use Rattle.lfs_fuse_wire.specs.declared.attributes.SetAttr.{SetAttr}
use Rattle.lfs_fuse_wire.specs.declared.attributes.Time.{Time}
use Rattle.lfs_fuse_wire.specs.declared.flags.AccessMode.{AccessMode}
use Rattle.lfs_fuse_wire.specs.declared.handles.Write.{Write}
use Rattle.lfs_fuse_reply.specs.declared.attr.Attr.{Attr}
use Rattle.lfs_fuse_reply.specs.declared.errno.Errno.{Errno}
use Rattle.lfs_fuse_reply.specs.declared.errno.Errno.TheVariants as errno
use Rattle.lfs_fuse_calls.specs.Attrs.{blocks_told}
use Rattle.lfs_fuse_calls.specs.Pieces.{put_at}
use Rattle.lfs_fuse_calls.specs.declared.told.Told.{Told}
use Rattle.lfs_fuse_calls.specs.declared.told.Told.TheVariants as told
use Rattle.lfs_opens.specs.declared.kept.Kept.{Kept}
use Rattle.lfs_opens.specs.declared.kept.KeepingFault.{KeepingFault}
use Rattle.lfs_opens.specs.declared.kept.OpenFile.{OpenFile}

-- ---- bytes and attributes

-- the length that is to be set, where nothing else is
abbrev pub new_size : SetAttr → Option ℕ
new_size fields =
    if is_some fields.permissions || is_some fields.uid || is_some fields.gid || is_some fields.accessed
    || is_some fields.modified || is_some fields.changed then None else fields.size

-- a message writes at most 131,072 bytes
abbrev pub part_of : List ℕ → List ℕ
part_of bytes = take 131072 bytes

-- where bytes go in a file of so many
abbrev pub start_of : Write → ℕ → ℕ
start_of fields size = start_in (put_at fields.flags.append fields.offset) size

abbrev pub size_or : ℕ → Option ℕ → ℕ
size_or size None = size
size_or size (Some new) = new

-- where what a message writes into a file of so many bytes ends, or how many bytes the file is to have
abbrev pub end_of : Said → ℕ → ℕ
end_of (write fields bytes) size = start_of fields size + length (part_of bytes)
end_of (setattr fields) size = size_or size (new_size fields)
end_of message size = size

abbrev pub cut_to : Option ℕ → List ℕ → List ℕ
cut_to None old = old
cut_to (Some size) old = resized old size

-- bytes with those of a message put at their place, or with the length that it tells
abbrev pub rewritten : Said → List ℕ → List ℕ
rewritten (write fields bytes) old = splice old (start_of fields (length old)) (part_of bytes)
rewritten (setattr fields) old = cut_to (new_size fields) old
rewritten message old = old

-- attributes of a file that a caller changes now, and that has so many bytes then
abbrev pub attr_behind : Time → Caller → ℕ → Attr → Attr
attr_behind now caller size attr = record attr {
  size = size;
  blocks = blocks_told size;
  permissions = mode_after caller attr.permissions;
  modified = now;
  changed = now;
}

-- ---- what is kept

-- what is kept of a file
pub record Shown : Type 0 where
  pub attr : Attr
  pub bytes : List ℕ

-- a file that is open, with what is kept of it, or why nothing is
pub record ShownFile : Type 0 where
  pub node : ℕ
  pub cred : Caller
  pub access : AccessMode
  pub kept : Option Shown
  pub lack : Option KeepingFault

abbrev pub shown_kept : Kept → Shown
shown_kept kept = record { attr = kept.attr; bytes = kept.bytes.items }

abbrev pub shown_file : OpenFile → ShownFile
shown_file file = record {
  node = file.node;
  cred = file.cred;
  access = file.access;
  kept = option_map shown_kept file.kept;
  lack = file.lack;
}

abbrev pub shown_slot : Option OpenFile → Option ShownFile
shown_slot slot = option_map shown_file slot

-- what is kept, behind a message that changes it
abbrev pub kept_behind : Time → Caller → Said → Shown → Shown
kept_behind now caller message kept = record {
  attr = attr_behind now caller (length (rewritten message kept.bytes)) kept.attr;
  bytes = rewritten message kept.bytes;
}

-- a slot, with what is kept of a file on this node changed so
abbrev pub file_behind : (Shown → Shown) → ℕ → Option ShownFile → Option ShownFile
file_behind change node None = None
file_behind change node (Some file) =
    Some (if file.node == node then record file { kept = option_map change file.kept } else file)

-- in each slot the same file is open, and the same is kept of it
abbrev pub AreSame : List (Option OpenFile) → List (Option OpenFile) → Type 0
AreSame before after =
    (slot : ℕ) → shown_slot (slice_index_or after slot None) ≡ shown_slot (slice_index_or before slot None)

-- the same, but for what is kept of files on a node
abbrev pub AreChanged : (Shown → Shown) → ℕ → List (Option OpenFile) → List (Option OpenFile) → Type 0
AreChanged change node before after =
    (slot : ℕ) → shown_slot (slice_index_or after slot None)
    ≡ file_behind change node (shown_slot (slice_index_or before slot None))

abbrev pub AreChangedIf : Bool → (Shown → Shown) → ℕ → List (Option OpenFile) → List (Option OpenFile)
    → Type 0
AreChangedIf true change node before after = AreChanged change node before after
AreChangedIf false change node before after = AreSame before after

-- whether a message changed what is kept, by what is told of it
abbrev pub is_rewrite : Said → Told → Bool
is_rewrite (write fields bytes) (told.Written count) = not (count == 0)
is_rewrite (setattr fields) (told.Attr attr) = true
is_rewrite message reply = false

-- A message about a removed file: what is kept of that changes for each who has it open, where it is told that it does,
-- and all else stays.
abbrev pub AreRewritten : Time → Caller → ℕ → Said → Told → List (Option OpenFile)
    → List (Option OpenFile) → Type 0
AreRewritten now caller node message reply before after =
    AreChangedIf (is_rewrite message reply) (kept_behind now caller message) node before after

-- ---- room

-- how many bytes are kept
abbrev pub length_kept : Option Kept → ℕ
length_kept None = 0
length_kept (Some kept) = length kept.bytes.items

abbrev pub size_of : Option OpenFile → ℕ
size_of None = 0
size_of (Some file) = length_kept file.kept

abbrev pub bytes_kept : List (Option OpenFile) → ℕ
bytes_kept [] = 0
bytes_kept (file ∷ files) = size_of file + bytes_kept files

-- how many more are kept, where all that is kept of a node's files gets so many more
abbrev pub more_kept : ℕ → Option Kept → ℕ
more_kept more None = 0
more_kept more (Some kept) = more

abbrev pub more_of : ℕ → ℕ → Option OpenFile → ℕ
more_of node more None = 0
more_of node more (Some file) = if file.node == node then more_kept more file.kept else 0

abbrev pub growth_of : ℕ → ℕ → List (Option OpenFile) → ℕ
growth_of node more [] = 0
growth_of node more (file ∷ files) = more_of node more file + growth_of node more files

-- there is no room for what a message makes of a node's files, of which one has so many bytes: at most 33,554,432 bytes
-- are kept in all
abbrev pub LacksRoom : Said → ℕ → ℕ → List (Option OpenFile) → Type 0
LacksRoom message node size files =
    33554432 - bytes_kept files < growth_of node (end_of message size - size) files

-- there is room for what a message makes of bytes
abbrev pub HasRoomFor : Said → Option Kept → Type 0
HasRoomFor message None = ⊤
HasRoomFor message (Some kept) = end_of message (length kept.bytes.items) ≤ vec_capacity kept.bytes

abbrev pub HasRoom : Said → ℕ → Option OpenFile → Type 0
HasRoom message node None = ⊤
HasRoom message node (Some file) = file.node ≡ node → HasRoomFor message file.kept

abbrev pub AllHaveRoom : Said → ℕ → List (Option OpenFile) → Type 0
AllHaveRoom message node files = (slot : ℕ) → HasRoom message node (slice_index_or files slot None)

-- ---- what is told

-- The errors of a change that isn't made: a file would be too large, which has so many bytes behind it; or room lacks, as
-- is said; or memory.
abbrev pub IsWanting : Type 0 → ℕ → Errno → Type 0
IsWanting Lacks end errno.EFBIG = file_max < end
IsWanting Lacks end errno.ENOSPC = Lacks
IsWanting Lacks end errno.ENOMEM = ⊤
IsWanting Lacks end error = ⊥

-- so many bytes are written up to a place, and there is room for them, or none
abbrev pub TellsWritten : Type 0 → ℕ → ℕ → Told → Type 0
TellsWritten Lacks count end (told.Written written) =
    (written ≡ count) × (end ≤ file_max) × (0 < written → Lacks → ⊥)
TellsWritten Lacks count end (told.Error error) = IsWanting Lacks end error
TellsWritten Lacks count end reply = ⊥

-- these are the attributes behind a change to so many bytes, for which there is room, or none is made
abbrev pub TellsCut : Type 0 → Attr → ℕ → Told → Type 0
TellsCut Lacks attr end (told.Attr given) = (given ≡ attr) × (end ≤ file_max) × (Lacks → ⊥)
TellsCut Lacks attr end (told.Error error) = IsWanting Lacks end error
TellsCut Lacks attr end reply = ⊥
