-- What comes of the bytes of a message.
use Rattle.std.specs.Prelude.{◌≡◌, ℕ, Bool, true, false, List, ◌++◌, Option, None, Some, IfSome, IsSome}
use Rattle.lfs_types.specs.Caller.{Caller}
use Rattle.lfs_types.specs.StoreStates.{StoreState}
use Rattle.lfs_volume.specs.Seen.{Seen}
use Rattle.lfs_nodes.specs.declared.node.Hang.{Hang}
use Rattle.lfs_nodes.specs.declared.node.Hang.TheVariants.{Gone}
use Rattle.lfs_nodes.specs.declared.parts.Parts.{Parts}
use Rattle.lfs_nodes.specs.Nodes.{known}
use Rattle.lfs_nodes.specs.Reads.{hang_in, number_in}
use Rattle.lfs_fuse_wire.specs.Header.{header_in}
use Rattle.lfs_fuse_wire.specs.Said.{Said, has_reply, said}
use Rattle.lfs_fuse_wire.specs.declared.attributes.Time.{Time}
use Rattle.lfs_fuse_wire.specs.declared.header.Header.{Header}
use Rattle.lfs_fuse_reply.specs.declared.errno.Errno.TheVariants.{EINVAL}
use Rattle.lfs_fuse_calls.specs.Callers.{caller_of}
use Rattle.lfs_fuse_calls.specs.Told.{told_bytes}
use Rattle.lfs_fuse_calls.specs.declared.told.Told.{Told}
use Rattle.lfs_fuse_calls.specs.declared.told.Told.TheVariants.{Error}
use Rattle.lfs_stamps.specs.Change.{change_of, other_node}
use Rattle.lfs_stamps.specs.Times.{dated, stamped}
use Rattle.lfs_mount.specs.Handled.{IsTold}
use Rattle.lfs_mount.specs.Keeping.{AreStillKept}
use Rattle.lfs_opens.specs.Listing.{AreListed}
use Rattle.lfs_mount.specs.Moving.{NodesBehindOf}
use Rattle.lfs_opens.specs.Loans.{due, noted, with_handle}
use Rattle.lfs_opens.specs.Opens.{AreLeft, IsFree, TellsKept}
use Rattle.lfs_mount.specs.Leaving.{ArePreparedFor, IsLastLook, IsLastMiss, IsLeaving, IsLooked, NoneLeaves, OnKept}
use Rattle.lfs_opens.specs.Opens.{opened_on}
use Rattle.lfs_mount.specs.Leaving.{kept_for}
use Rattle.lfs_opens.specs.Rewritten.{AreRewritten}
use Rattle.lfs_mount.specs.declared.mount.Beside.{Beside}
use Rattle.lfs_mount.specs.declared.mount.Sizes.{Sizes}
use Rattle.lfs_opens.specs.declared.kept.Kept.{Kept}
use Rattle.lfs_opens.specs.declared.kept.OpenFile.{OpenFile}

-- the inode number of each node of a mount
abbrev pub rows_in : Parts → ℕ → Option ℕ
rows_in parts node = number_in (known parts node)

-- the inode number of a node that isn't gone
abbrev pub live_of : Option Hang → Option ℕ → Option ℕ
live_of (Some Gone) row = None
live_of hang row = row

abbrev pub live_in : Parts → ℕ → Option ℕ
live_in parts node = live_of (hang_in (known parts node)) (rows_in parts node)

-- What comes of a message that comes now: its calls; the files that it changed, as what is told of it says, have the
-- present time, all others keep theirs, and attributes are told with their times; what is put down of files that are
-- made with more than their mode; and which files and directories are open then. Before a node is taken from its place,
-- its file may be looked at as each who opened it, which changes nothing that the store shows.
pub record IsToldDated {F : Type 0} (state : F → StoreState) (is_flushed : F → Type 0)
    (sizes : Sizes) (now : Time)
    (caller : Caller) (nodes nodes_after : Parts) (node : ℕ) (message : Said) (reply : Told)
    (old new : Seen F)
    (before after : Beside) : Type 0 where
  pub told : Told
  pub between : Seen F
  pub left : Option ℕ
  pub leaves : IfSome left (IsLeaving nodes node message)
  pub none : left ≡ None → NoneLeaves nodes node message before.opens.files.items
  pub looked : IsLooked state old between
  pub prepared : List (Option OpenFile)
  pub kept : ArePreparedFor (IsLastLook state before.times.stamps.items nodes old)
      (IsLastMiss state nodes old) left before.opens.files.items prepared
  pub is : IsTold state is_flushed sizes (due message before.loans.modes.items (live_in nodes node))
      caller nodes nodes_after before.listings after.listings node message told between new
  pub listed : AreListed message before.listings after.listings
  pub times : after.times.stamps.items ≡ stamped now (rows_in nodes node)
      (rows_in nodes (other_node message))
      (change_of message told) before.times.stamps.items
  pub loans : after.loans.modes.items ≡ noted message told before.loans.modes.items
  pub slot : Option ℕ
  pub free : IfSome slot (λ s. IsFree prepared s × IsSome (opened_on message node told))
  pub opens : AreLeft message node caller told left slot prepared after.opens.files.items
  pub shown : reply ≡ dated after.times.stamps.items (with_handle slot message told)

-- A message about a file that was removed while it was open: what is kept of that is told, or changes as the message
-- says, and no call is made. All else beside the volume stays.
pub record IsToldKept {F : Type 0} (now : Time) (caller : Caller) (node : ℕ) (message : Said)
    (reply : Told) (old new : Seen F) (before after : Beside) (kept : Kept) : Type 0 where
  pub tells : TellsKept now caller node before.opens.files.items message kept reply
  pub none : new ≡ old
  pub times : after.times ≡ before.times
  pub loans : after.loans ≡ before.loans
  pub listings : after.listings ≡ before.listings
  pub opens : AreRewritten now caller node message reply before.opens.files.items
      after.opens.files.items

-- what comes of a message: what is kept that answers it, or its calls
abbrev pub IsToldKeptOrDated : {F : Type 0} → (F → StoreState) → (F → Type 0) → Sizes → Time
    → Caller → Parts → Parts → ℕ → Said → Told → Seen F → Seen F → Beside → Beside → Type 0
IsToldKeptOrDated state is_flushed sizes now caller nodes nodes_after node message reply old new
    before after =
    OnKept (kept_for nodes message before.opens.files.items node caller)
    (IsToldKept now caller node message reply old new before after)
    (IsToldDated state is_flushed sizes now caller nodes nodes_after node message reply old new
    before after)

-- what comes of a message, or of bytes that are none: those are EINVAL, and no call is made; and whether a reply is
-- wanted
abbrev pub IsHeard : {F : Type 0} → (F → StoreState) → (F → Type 0) → Sizes → Time → Caller → Parts
    → Parts → ℕ → Option Said
    → Told → Bool → Seen F → Seen F → Beside → Beside → Type 0
IsHeard state is_flushed sizes now caller nodes nodes_after node None reply wanted old new before
    after =
    (reply ≡ Error EINVAL) × (wanted ≡ true) × (new ≡ old) × (after ≡ before)
IsHeard state is_flushed sizes now caller nodes nodes_after node
    (Some message) reply wanted old new before after =
    IsToldKeptOrDated state is_flushed sizes now caller nodes nodes_after node message reply old new
    before after
    × (wanted ≡ has_reply message)

-- bytes, with the reply to the message of this number behind them, or with none
abbrev pub replied : Bool → ℕ → Told → List ℕ → List ℕ
replied true unique reply out = out ++ told_bytes unique reply
replied false unique reply out = out

-- One reply to the message of a header, with its own number, or none where none is wanted; its calls were made as the
-- header's caller, with the other groups of the process; what is kept of removed files is kept still; and nodes are what
-- the message, told so, makes of them.
pub record IsReplied {F : Type 0} (state : F → StoreState) (is_flushed : F → Type 0) (sizes : Sizes)
    (now : Time)
    (nodes nodes_after : Parts) (others : List ℕ) (header : Header) (message : Option Said)
    (out_before out_after : List ℕ)
    (old new : Seen F) (before after : Beside) : Type 0 where
  pub reply : Told
  pub wanted : Bool
  pub heard : IsHeard state is_flushed sizes now
      (caller_of header others) nodes nodes_after header.node message reply wanted old new before
      after
  pub keeps : IfSome message (λ m.
      AreStillKept now (caller_of header others) nodes header.node m reply
      before.opens.files.items after.opens.files.items)
  pub behind : NodesBehindOf message header.node reply nodes nodes_after
  pub written : out_after ≡ replied wanted header.unique reply out_before

-- What comes of bytes: of those without a header nothing, else one reply or none.
abbrev pub IsAnsweredOf : {F : Type 0} → (F → StoreState) → (F → Type 0) → Sizes → Time → Parts
    → Parts → List ℕ → Option Header
    → Option Said → List ℕ → List ℕ → Seen F → Seen F → Beside → Beside → Type 0
IsAnsweredOf state is_flushed sizes now nodes nodes_after others None message out_before out_after
    old new before after =
    (out_after ≡ out_before) × (new ≡ old) × (after ≡ before)
IsAnsweredOf state is_flushed sizes now nodes nodes_after others
    (Some header) message out_before out_after old new before after =
    IsReplied state is_flushed sizes now nodes nodes_after others header message out_before
    out_after old new before after

abbrev pub IsAnswered : {F : Type 0} → (F → StoreState) → (F → Type 0) → Sizes → Time → Parts
    → Parts → List ℕ → List ℕ → List ℕ
    → List ℕ → Seen F → Seen F → Beside → Beside → Type 0
IsAnswered state is_flushed sizes now nodes nodes_after others bytes out_before out_after old new
    before after =
    IsAnsweredOf state is_flushed sizes now nodes nodes_after others (header_in bytes)
    (said bytes) out_before out_after old new before after
