-- What is kept of a file that is removed while it is open: the last look at it, and which messages it answers.
use Rattle.std.specs.Prelude.{◌≡◌, ◌≢◌, ⊤, ℕ, ◌-◌, ◌<◌, ◌≤◌, Bool, true, false, length}
use Rattle.std.specs.Prelude.{List, Option, None, Some, Result, Ok, Err, IfErr, IfOk, IfSome, option_map, slice_index_or}
use Rattle.lfs_types.specs.declared.answer.Answer.{Answer}
use Rattle.lfs_types.specs.declared.answer.Answer.TheVariants as answers
use Rattle.lfs_types.specs.Caller.{Caller}
use Rattle.lfs_types.specs.StoreStates.{StoreState}
use Rattle.lfs_types.specs.Stored.{shown_attrs, slice_of}
use Rattle.lfs_types.specs.Tree.{World, root}
use Rattle.lfs_types.specs.declared.attrs.Attrs.{Attrs}
use Rattle.lfs_types.specs.declared.request.Request.TheVariants.{Read}
use Rattle.lfs_model.specs.Rules.{decide, reached}
use Rattle.lfs_model.specs.World.{file_at}
use Rattle.std.specs.FinMap as map
use Rattle.lfs_volume.specs.Journals.{AtPresent}
use Rattle.lfs_volume.specs.Seen.{Seen}
use Rattle.lfs_nodes.specs.declared.node.Hang.{Hang}
use Rattle.lfs_nodes.specs.declared.node.Hang.TheVariants.{Gone}
use Rattle.lfs_nodes.specs.declared.parts.Parts.{Parts}
use Rattle.lfs_nodes.specs.Maps.{same_place}
use Rattle.lfs_nodes.specs.Nodes.{is_at, known, place_at}
use Rattle.lfs_nodes.specs.declared.place.Place.{Place}
use Rattle.lfs_nodes.specs.Reads.{hang_in, number_in}
use Rattle.lfs_fuse_wire.specs.declared.naming.RenameMode.{RenameMode}
use Rattle.lfs_fuse_wire.specs.declared.naming.RenameMode.TheVariants as mode
use Rattle.lfs_fuse_wire.specs.Said.{Said, rename, unlink}
use Rattle.lfs_fuse_reply.specs.declared.attr.Attr.{Attr}
use Rattle.lfs_fuse_calls.specs.Attrs.{attr_of}
use Rattle.lfs_fuse_calls.specs.Paths.{IsPathOf}
use Rattle.lfs_stamps.specs.Times.{dated_attr}
use Rattle.lfs_stamps.specs.declared.stamps.Stamps.{Stamps}
use Rattle.lfs_mount.specs.Handled.{hangs_in}
use Rattle.lfs_opens.specs.Rewritten.{bytes_kept}
use Rattle.lfs_opens.specs.declared.kept.Kept.{Kept}
use Rattle.lfs_opens.specs.declared.kept.KeepingFault.{KeepingFault}
use Rattle.lfs_opens.specs.declared.kept.KeepingFault.TheVariants as lack
use Rattle.lfs_opens.specs.declared.kept.OpenFile.{OpenFile}
use Rattle.lfs_mount.specs.declared.sight.Sight.{Sight}
use Rattle.lfs_opens.specs.Opens.{kept_by, node_of, opener_of, with_seen}

abbrev pub where_gone : Option Hang → Option Kept → Option Kept
where_gone (Some Gone) kept = kept
where_gone hang kept = None

-- what is kept that answers a message: of a node that is gone alone
abbrev pub kept_for : Parts → Said → List (Option OpenFile) → ℕ → Caller → Option Kept
kept_for nodes message files node caller =
    where_gone (hang_in (known nodes node)) (kept_by message files node caller)

abbrev pub OnKept : Option Kept → (Kept → Type 0) → Type 0 → Type 0
OnKept (Some kept) Tells Goes = Tells kept
OnKept None Tells Goes = Goes

-- ---- a look at a file before it is removed

-- only the store was looked at: it is in the same state, and all else is the same
pub record IsLooked {F : Type 0} (state : F → StoreState) (old new : Seen F) : Type 0 where
  pub unchanged : state new.store ≡ state old.store
  pub others : new ≡ record old { store = new.store }

-- the place of a rename that replaces: not one of a name to itself
abbrev pub where_replacing : RenameMode → Bool → Place → Option Place
where_replacing mode.Replace false place = Some place
where_replacing how is_same place = None

-- the place from which a message is about to take what hangs there
abbrev pub taken_at : ℕ → Said → Option Place
taken_at node (unlink name) = Some (place_at node name)
taken_at node (rename fields name new_name) =
    where_replacing fields.mode
    (same_place (place_at node name) (place_at fields.directory new_name))
    (place_at fields.directory new_name)
taken_at node message = None

abbrev pub is_taken : Option Place → Option Hang → Bool
is_taken None hang = false
is_taken (Some place) hang = is_at place hang

-- a message is about to take a node from its place
abbrev pub IsLeaving : Parts → ℕ → Said → ℕ → Type 0
IsLeaving nodes node message id = is_taken (taken_at node message) (hang_in (known nodes id)) ≡ true

-- no file is open on a node that a message is about to take from its place
abbrev pub NoneLeaves : Parts → ℕ → Said → List (Option OpenFile) → Type 0
NoneLeaves nodes node message files =
    (slot : ℕ) → IfSome (node_of (slice_index_or files slot None))
    (λ id. IsLeaving nodes node message id → ⊥)

-- the bytes of the file of a path
abbrev pub bytes_at : World → List (List ℕ) → List ℕ
bytes_at w path = (file_at (map.get w.rows (reached w.rows root path))).bytes

-- the rules allow a caller to read the file of a path, and these are its bytes
pub record IsReadBy (w : World) (caller : Caller) (path : List (List ℕ))
    (shown : List ℕ) : Type 0 where
  pub allowed : decide w caller (Read path 0 0) ≡ None
  pub all : shown ≡ bytes_at w path

-- the same of at most 4,096 bytes from a place on
pub record IsPiece (w : World) (caller : Caller) (path : List (List ℕ)) (off : ℕ)
    (shown : List ℕ) : Type 0 where
  pub allowed : decide w caller (Read path 0 0) ≡ None
  pub piece : shown ≡ slice_of (bytes_at w path) off 4096

-- a file that was removed has no name
abbrev pub unlinked : Attr → Attr
unlinked attr = record attr { links = 0 }

-- what is told of the attributes of a node's file, which are those that the store shows, with its times
abbrev pub attr_left : List Stamps → ℕ → Attrs → Attr
attr_left times number attrs = dated_attr times (unlinked (attr_of number attrs))

-- what somebody sees of a file: all the bytes that he may read now, for which there is room, and its attributes
pub record IsSeenSo {F : Type 0} (state : F → StoreState) (old : Seen F) (sight : Sight)
    (room : ℕ) (caller : Caller) (kept : Kept) : Type 0 where
  pub bytes : AtPresent state old (λ w. IsReadBy w caller sight.path kept.bytes.items)
  pub fits : length kept.bytes.items ≤ room
  pub attr : kept.attr ≡ sight.attr

-- An answer of a look from which no bytes come: the call was denied, or memory was wanting.
abbrev pub IsAnswerOf : KeepingFault → Answer → Type 0
IsAnswerOf lack.Denied (answers.Denied denial) = ⊤
IsAnswerOf lack.Memory answer = ⊤
IsAnswerOf why answer = ⊥

-- Why somebody sees nothing of the file of a path: the rules don't let him read it now, it has more bytes than there is
-- room for, or memory is wanting.
abbrev pub IsUnseen : {F : Type 0} → (F → StoreState) → Seen F → List (List ℕ) → ℕ → Caller → KeepingFault
    → Type 0
IsUnseen state old path room caller lack.Denied =
    AtPresent state old (λ w. decide w caller (Read path 0 0) ≢ None)
IsUnseen state old path room caller lack.Room =
    AtPresent state old (λ w. room < length (bytes_at w path))
IsUnseen state old path room caller lack.Absent = ⊥
IsUnseen state old path room caller lack.Memory = ⊤

-- a path leads to a node, and these are the attributes of its file
pub record IsSight {F : Type 0} (state : F → StoreState) (times : List Stamps) (nodes : Parts)
    (old : Seen F) (node : ℕ) (sight : Sight) : Type 0 where
  pub leads : IsPathOf (hangs_in nodes) node None sight.path
  pub number : ℕ
  pub row : number_in (known nodes node) ≡ Some number
  pub attr : Some sight.attr
      ≡ option_map (attr_left times number) (shown_attrs (state old.store).content number)

-- the store shows no file of a node's inode number
abbrev pub IsAbsent : {F : Type 0} → (F → StoreState) → Parts → Seen F → ℕ → Type 0
IsAbsent state nodes old node =
    IfSome (number_in (known nodes node))
    (λ number. shown_attrs (state old.store).content number ≡ None)

-- where a node's file is to be looked at, or why it can't be: the store shows none, or memory for its path is wanting
abbrev pub IsSightOr : {F : Type 0} → (F → StoreState) → List Stamps → Parts → Seen F → ℕ
    → Result Sight KeepingFault → Type 0
IsSightOr state times nodes old node (Ok sight) = IsSight state times nodes old node sight
IsSightOr state times nodes old node (Err lack.Absent) = IsAbsent state nodes old node
IsSightOr state times nodes old node (Err lack.Memory) = ⊤
IsSightOr state times nodes old node (Err why) = ⊥

-- what somebody sees of a file there, or why he sees nothing of it
abbrev pub IsSeenIn : {F : Type 0} → (F → StoreState) → Seen F → Result Sight KeepingFault → ℕ → Caller → Kept
    → Type 0
IsSeenIn state old (Ok sight) room caller kept = IsSeenSo state old sight room caller kept
IsSeenIn state old (Err lacking) room caller kept = ⊥

abbrev pub IsUnseenIn : {F : Type 0} → (F → StoreState) → Seen F → Result Sight KeepingFault → ℕ → Caller
    → KeepingFault
    → Type 0
IsUnseenIn state old (Ok sight) room caller why = IsUnseen state old sight.path room caller why
IsUnseenIn state old (Err lacking) room caller why = why ≡ lacking

-- The last look at a node's file as somebody: its path leads to it, the bytes are all those that he may read now, no more
-- than there is room for, and the attributes are its own.
pub record IsLastLook {F : Type 0} (state : F → StoreState) (times : List Stamps) (nodes : Parts)
    (old : Seen F) (node room : ℕ) (caller : Caller) (kept : Kept) : Type 0 where
  pub sight : Sight
  pub is : IsSight state times nodes old node sight
  pub looks : IsSeenSo state old sight room caller kept

-- a path leads to a node, and somebody sees nothing of its file
pub record IsMiss {F : Type 0} (state : F → StoreState) (nodes : Parts) (old : Seen F)
    (node room : ℕ)
    (caller : Caller) (why : KeepingFault) : Type 0 where
  pub path : List (List ℕ)
  pub leads : IsPathOf (hangs_in nodes) node None path
  pub lacks : IsUnseen state old path room caller why

-- Why nothing is kept of a node's file for somebody: the rules don't let him read it now, it has more bytes than there is
-- room for, or the store shows no file of its number; or memory is wanting, which no clause sees.
abbrev pub IsLastMiss : {F : Type 0} → (F → StoreState) → Parts → Seen F → ℕ → ℕ → Caller → KeepingFault
    → Type 0
IsLastMiss state nodes old node room caller lack.Denied =
    IsMiss state nodes old node room caller lack.Denied
IsLastMiss state nodes old node room caller lack.Room =
    IsMiss state nodes old node room caller lack.Room
IsLastMiss state nodes old node room caller lack.Absent = IsAbsent state nodes old node
IsLastMiss state nodes old node room caller lack.Memory = ⊤

-- a slot in which what was seen is kept for who opened its file, or why nothing was seen
pub record IsKept (Looks : Kept → Type 0) (Lacks : KeepingFault → Type 0)
    (before after : Option OpenFile) : Type 0 where
  pub seen : Result Kept KeepingFault
  pub is : after ≡ with_seen seen before
  pub looks : IfOk seen Looks
  pub lacks : IfErr seen Lacks

abbrev pub OnOpener : Option Caller → (Caller → Type 0) → Type 0 → Type 0
OnOpener (Some caller) Keeps Stays = Keeps caller
OnOpener None Keeps Stays = Stays

-- A slot, before and after the last look, for which there was so much room: what is kept is what who opened the file
-- sees; other slots stay.
abbrev pub IsPrepared : (ℕ → Caller → Kept → Type 0) → (ℕ → Caller → KeepingFault → Type 0) → ℕ → ℕ
    → Option OpenFile → Option OpenFile → Type 0
IsPrepared Looks Lacks node room before after =
    OnOpener (opener_of before node)
    (λ caller. IsKept (Looks room caller) (Lacks room caller) before after) (after ≡ before)

-- the files as they are when a slot is looked for: the slots before it are done
pub record AreBetween (slot : ℕ) (before after between : List (Option OpenFile)) : Type 0 where
  pub done : (s : ℕ) → s < slot → slice_index_or between s None ≡ slice_index_or after s None
  pub rest : (s : ℕ) → slot ≤ s → slice_index_or between s None ≡ slice_index_or before s None

-- a slot so, for which there was the room that what is kept then leaves of 33,554,432 bytes
pub record IsLookedFor (Looks : ℕ → Caller → Kept → Type 0) (Lacks : ℕ → Caller → KeepingFault → Type 0)
    (node slot : ℕ) (before after : List (Option OpenFile)) : Type 0 where
  pub between : List (Option OpenFile)
  pub at : AreBetween slot before after between
  pub prepared : IsPrepared Looks Lacks node (33554432 - bytes_kept between)
      (slice_index_or before slot None) (slice_index_or after slot None)

-- each slot so
abbrev pub ArePrepared : (ℕ → Caller → Kept → Type 0) → (ℕ → Caller → KeepingFault → Type 0) → ℕ
    → List (Option OpenFile) → List (Option OpenFile) → Type 0
ArePrepared Looks Lacks node before after =
    (slot : ℕ) → IsLookedFor Looks Lacks node slot before after

-- the same where a node is looked at; else nothing changes
abbrev pub ArePreparedFor : (ℕ → ℕ → Caller → Kept → Type 0) → (ℕ → ℕ → Caller → KeepingFault → Type 0)
    → Option ℕ → List (Option OpenFile) → List (Option OpenFile) → Type 0
ArePreparedFor Looks Lacks None before after = after ≡ before
ArePreparedFor Looks Lacks (Some node) before after =
    ArePrepared (Looks node) (Lacks node) node before after
