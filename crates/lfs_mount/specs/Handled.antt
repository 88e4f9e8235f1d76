-- What comes of a message.
use Rattle.std.specs.Prelude.{◌≡◌, ℕ, ◌⊎◌, Bool, true, false, List, [], ◌∷◌, Option, None, Some}
use Rattle.lfs_types.specs.Caller.{Caller}
use Rattle.lfs_types.specs.StoreStates.{StoreState}
use Rattle.lfs_types.specs.declared.answer.Answer.{Answer}
use Rattle.lfs_types.specs.declared.attrs.Attrs.{Attrs}
use Rattle.lfs_types.specs.declared.request.Request.{Request}
use Rattle.lfs_types.specs.declared.request.Request.TheVariants.{Chflags, Chmod, Rename, Stat as Stats, Sync}
use Rattle.lfs_volume.specs.Seen.{Seen}
use Rattle.lfs_nodes.specs.declared.node.Hang.{Hang}
use Rattle.lfs_nodes.specs.declared.parts.Parts.{Parts}
use Rattle.lfs_nodes.specs.Maps.{node_at}
use Rattle.lfs_nodes.specs.Reads.{hang_in}
use Rattle.lfs_fuse_wire.specs.Said.{Said, init, lookup, getattr, setattr, access, mknod, mkdir, create, unlink, rmdir}
use Rattle.lfs_fuse_wire.specs.Said.{rename, opening, read, write, fsync, opendir, readdir, readdirplus, release}
use Rattle.lfs_fuse_wire.specs.Said.{fsyncdir, statfs, ioctl, unserved, unknown}
use Rattle.lfs_fuse_wire.specs.declared.attributes.SetAttr.{SetAttr}
use Rattle.lfs_fuse_wire.specs.declared.handles.Open.{Open}
use Rattle.lfs_fuse_wire.specs.declared.ioctl.Command.{Command}
use Rattle.lfs_fuse_wire.specs.declared.ioctl.Command.TheVariants as command
use Rattle.lfs_fuse_wire.specs.declared.ioctl.Ioctl.{Ioctl}
use Rattle.lfs_fuse_wire.specs.declared.kind.FileKind.{FileKind}
use Rattle.lfs_fuse_wire.specs.declared.kind.FileKind.TheVariants.{Regular}
use Rattle.lfs_fuse_wire.specs.declared.naming.RenameMode.{RenameMode}
use Rattle.lfs_fuse_wire.specs.declared.naming.RenameMode.TheVariants as mode
use Rattle.lfs_fuse_wire.specs.declared.opcode.Unserved.{Unserved}
use Rattle.lfs_fuse_wire.specs.declared.opcode.Unserved.TheVariants as kinds
use Rattle.lfs_fuse_reply.specs.declared.errno.Errno.{Errno}
use Rattle.lfs_fuse_reply.specs.declared.errno.Errno.TheVariants as errno
use Rattle.lfs_fuse_calls.specs.Asked.{asked, asked_to_set}
use Rattle.lfs_fuse_calls.specs.Paths.{IsPathOf, IsStaleError, LacksName, LacksPath}
use Rattle.lfs_fuse_calls.specs.Telling.{Says, SaysOr, attr_told, named_in, refusal_in, refusal_told, seen_in}
use Rattle.lfs_fuse_calls.specs.declared.telling.Seen.{Seen as Stat}
use Rattle.lfs_fuse_calls.specs.declared.told.Told.{Told}
use Rattle.lfs_fuse_calls.specs.declared.told.Told.TheVariants as told
use Rattle.lfs_stamps.specs.Leave.{dating_refusal}
use Rattle.lfs_mount.specs.Entries.{NodesFollow}
use Rattle.lfs_mount.specs.Flags.{flags_shown, flags_wanted}
use Rattle.lfs_opens.specs.Listing.{KeepsShown, TellsEntries, names_at, names_in}
use Rattle.lfs_mount.specs.Making.{AreMade}
use Rattle.lfs_mount.specs.Room.{IsRoom, init_told}
use Rattle.lfs_mount.specs.Trees.{UnlessRefused}
use Rattle.lfs_opens.specs.declared.listing.Listings.{Listings}
use Rattle.lfs_mount.specs.declared.mount.Sizes.{Sizes}

-- where each node of a mount hangs
abbrev pub hangs_in : Parts → ℕ → Option Hang
hangs_in parts node = hang_in (node_at parts.table node)

abbrev pub IsFault : Errno → Told → Type 0
IsFault error reply = reply ≡ told.Error error

-- an error is told of which this holds
abbrev pub IsError : (Errno → Type 0) → Told → Type 0
IsError lacks (told.Error error) = lacks error
IsError lacks reply = ⊥

-- memory is wanting
abbrev pub WantsMemory : Errno → Type 0
WantsMemory error = error ≡ errno.ENOMEM

-- why there is no path of a name in a node, or none of another name in a directory
abbrev pub LacksPaths : (ℕ → Option Hang) → ℕ → List ℕ → ℕ → List ℕ → Errno → Type 0
LacksPaths hangs node name directory new_name error =
    LacksPath hangs node (Some name) error ⊎ LacksPath hangs directory (Some new_name) error

-- the error of a node that is gone, or of a name in it, if memory isn't wanting
abbrev pub IsGoneError : Option (List ℕ) → Errno → Type 0
IsGoneError name error = IsStaleError error ⊎ LacksName name error

-- The calls that a message asks for were made, of a path that leads to its node, or to the name that it tells there.
pub record AreAskedAndMade {F : Type 0} (state : F → StoreState) (is_flushed : F → Type 0)
    (caller : Caller)
    (hangs : ℕ → Option Hang) (node : ℕ) (message : Said) (answers : List Answer)
    (old new : Seen F) : Type 0 where
  pub path : List (List ℕ)
  pub leads : IsPathOf hangs node (named_in message) path
  pub made : AreMade state is_flushed caller (asked message path) answers old new

-- A message was handled: the calls that it asks for were made as this caller, the reply says what their answers say, and
-- the nodes follow from these; behind a refusal they stay as they are.
pub record IsCalled {F : Type 0} (state : F → StoreState) (is_flushed : F → Type 0)
    (caller : Caller)
    (nodes nodes_after : Parts) (node : ℕ) (message : Said) (reply : Told)
    (old new : Seen F) : Type 0 where
  pub answers : List Answer
  pub made : AreAskedAndMade state is_flushed caller (hangs_in nodes) node message answers old new
  pub says : Says caller message answers reply
  pub follows : UnlessRefused (refusal_told message answers)
      (NodesFollow message node (seen_in answers) reply nodes nodes_after) nodes nodes_after

-- No call was made, and the error that is told says why. Where that is why there is no path, it may be ENOMEM too, of
-- which `LacksPath` says nothing.
pub record IsRefused {F : Type 0} (lacks : Errno → Type 0) (reply : Told)
    (old new : Seen F) : Type 0 where
  pub error : IsError lacks reply
  pub none : new ≡ old

-- the same, or no call was made, as there is no path of the node or of the name that the message tells there, and the
-- nodes stay as they are
abbrev pub IsHandled : {F : Type 0} → (F → StoreState) → (F → Type 0) → Caller → Parts → Parts → ℕ
    → Said → Told
    → Seen F → Seen F → Type 0
IsHandled state is_flushed caller nodes nodes_after node message reply old new =
    IsCalled state is_flushed caller nodes nodes_after node message reply old new
    ⊎ (IsRefused (LacksPath (hangs_in nodes) node (named_in message)) reply old new
    × (nodes_after ≡ nodes))

-- a call that shows nothing is told as done, or as refused
abbrev pub SaysDone : Told → List Answer → Type 0
SaysDone reply given = SaysOr (refusal_in given) (reply ≡ told.Done) reply

-- One call was made as this caller, and the reply says what its answer says.
pub record IsCalledOnce {F : Type 0} (state : F → StoreState) (is_flushed : F → Type 0)
    (caller : Caller)
    (request : Request) (Tells : List Answer → Type 0) (old new : Seen F) : Type 0 where
  pub answers : List Answer
  pub made : AreMade state is_flushed caller (request ∷ []) answers old new
  pub says : Tells answers

-- one call that shows nothing was made, or none, for want of memory
abbrev pub IsDone : {F : Type 0} → (F → StoreState) → (F → Type 0) → Caller → Request → Told
    → Seen F → Seen F → Type 0
IsDone state is_flushed caller request reply old new =
    IsCalledOnce state is_flushed caller request (SaysDone reply) old new
    ⊎ IsRefused WantsMemory reply old new

-- what waits was written, or no call was made, for want of memory
abbrev pub IsSynced : {F : Type 0} → (F → StoreState) → (F → Type 0) → Caller → Told → Seen F
    → Seen F → Type 0
IsSynced state is_flushed caller reply old new = IsDone state is_flushed caller Sync reply old new

-- A Rename was made, between paths that lead to a name in a node and to a name in another.
pub record IsMoved {F : Type 0} (state : F → StoreState) (is_flushed : F → Type 0) (caller : Caller)
    (hangs : ℕ → Option Hang) (node : ℕ) (name : List ℕ) (directory : ℕ) (new_name : List ℕ)
    (reply : Told)
    (old new : Seen F) : Type 0 where
  pub from : List (List ℕ)
  pub to : List (List ℕ)
  pub leads_from : IsPathOf hangs node (Some name) from
  pub leads_to : IsPathOf hangs directory (Some new_name) to
  pub made : IsDone state is_flushed caller (Rename from to) reply old new

-- the same, or no call was made, as there is no path of one of the two names
abbrev pub IsRenamed : {F : Type 0} → (F → StoreState) → (F → Type 0) → Caller → (ℕ → Option Hang)
    → ℕ → List ℕ → ℕ
    → List ℕ → Told → Seen F → Seen F → Type 0
IsRenamed state is_flushed caller hangs node name directory new_name reply old new =
    IsMoved state is_flushed caller hangs node name directory new_name reply old new
    ⊎ IsRefused (LacksPaths hangs node name directory new_name) reply old new

-- attributes were set that were these before, and are shown
pub record AreSet {F : Type 0} (state : F → StoreState) (is_flushed : F → Type 0) (caller : Caller)
    (hangs : ℕ → Option Hang) (node : ℕ) (fields : SetAttr) (present : Attrs) (reply : Told)
    (old new : Seen F) : Type 0 where
  pub path : List (List ℕ)
  pub leads : IsPathOf hangs node None path
  pub answers : List Answer
  pub made : AreMade state is_flushed caller (asked_to_set fields present path) answers old new
  pub says : SaysOr (refusal_in answers) (reply ≡ attr_told (seen_in answers)) reply

-- the same, or no further call was made, as there is no path of the node
abbrev pub IsSet : {F : Type 0} → (F → StoreState) → (F → Type 0) → Caller → (ℕ → Option Hang) → ℕ
    → SetAttr → Told
    → Seen F → Seen F → Attrs → Type 0
IsSet state is_flushed caller hangs node fields reply old new present =
    AreSet state is_flushed caller hangs node fields present reply old new
    ⊎ IsRefused (LacksPath hangs node None) reply old new

-- the error that is told, and no further call, or what is gone on with
abbrev pub Unless : Option Errno → Told → Type 0 → Type 0 → Type 0
Unless (Some error) reply Stays Goes = (reply ≡ told.Error error) × Stays
Unless None reply Stays Goes = Goes

-- attributes that were these before were set where the caller may set the times that are set with them, and else none
abbrev pub IsSetJudged : {F : Type 0} → (F → StoreState) → (F → Type 0) → Caller → (ℕ → Option Hang)
    → ℕ → SetAttr
    → Told → Seen F → Seen F → Attrs → Type 0
IsSetJudged state is_flushed caller hangs node fields reply old new present =
    Unless (dating_refusal caller fields present) reply (new ≡ old)
    (IsSet state is_flushed caller hangs node fields reply old new present)

-- behind a Stat: its refusal is told, or what it shows is gone on with
abbrev pub Behind : Option Errno → Option Stat → Told → Type 0 → (Attrs → Type 0) → Type 0
Behind (Some error) seen reply Stays Goes = (reply ≡ told.Error error) × Stays
Behind None None reply Stays Goes = (reply ≡ told.Error errno.EIO) × Stays
Behind None (Some seen) reply Stays Goes = Goes seen.attrs

-- A node was looked at first, as this caller, and then what is asked for was done.
pub record IsLookedAt {F : Type 0} (state : F → StoreState) (is_flushed : F → Type 0)
    (caller : Caller)
    (hangs : ℕ → Option Hang) (node : ℕ) (message : Said) (reply : Told) (old new : Seen F)
    (Goes : Seen F → Attrs
    → Type 0) : Type 0 where
  pub answers : List Answer
  pub between : Seen F
  pub looked : AreAskedAndMade state is_flushed caller hangs node message answers old between
  pub behind : Behind (refusal_in answers) (seen_in answers) reply (new ≡ between) (Goes between)

-- attributes were set, or no call was made, as there is no path of the node
abbrev pub IsSetAttr : {F : Type 0} → (F → StoreState) → (F → Type 0) → Caller → (ℕ → Option Hang)
    → ℕ → SetAttr → Told
    → Seen F → Seen F → Type 0
IsSetAttr state is_flushed caller hangs node fields reply old new =
    IsLookedAt state is_flushed caller hangs node (setattr fields) reply old new
    (λ between present. IsSetJudged state is_flushed caller hangs node fields reply between new
    present)
    ⊎ IsRefused (LacksPath hangs node None) reply old new

-- ---- a Rename to a name that must be free

abbrev pub is_missing : Errno → Bool
is_missing errno.ENOENT = true
is_missing error = false

-- behind a Stat of the new name: where that is missing it is gone on with, else it is there or the Stat's refusal is
-- told
abbrev pub BehindMissing : Bool → Errno → Told → Type 0 → Type 0 → Type 0
BehindMissing true error reply Stays Goes = Goes
BehindMissing false error reply Stays Goes = (reply ≡ told.Error error) × Stays

abbrev pub BehindFree : Option Errno → Told → Type 0 → Type 0 → Type 0
BehindFree None reply Stays Goes = (reply ≡ told.Error errno.EEXIST) × Stays
BehindFree (Some error) reply Stays Goes = BehindMissing (is_missing error) error reply Stays Goes

-- The new name was looked for, as this caller, and the Rename made where it is missing.
pub record IsSought {F : Type 0} (state : F → StoreState) (is_flushed : F → Type 0)
    (caller : Caller)
    (hangs : ℕ → Option Hang) (node : ℕ) (name : List ℕ) (directory : ℕ) (new_name : List ℕ)
    (reply : Told)
    (old new : Seen F) : Type 0 where
  pub to : List (List ℕ)
  pub leads_to : IsPathOf hangs directory (Some new_name) to
  pub answers : List Answer
  pub between : Seen F
  pub made : AreMade state is_flushed caller (Stats to ∷ []) answers old between
  pub behind : BehindFree (refusal_in answers) reply (new ≡ between)
      (IsRenamed state is_flushed caller hangs node name directory new_name reply between new)

-- the same, or no call was made, as there is no path of the new name
abbrev pub IsRenamedToFree : {F : Type 0} → (F → StoreState) → (F → Type 0) → Caller
    → (ℕ → Option Hang) → ℕ → List ℕ
    → ℕ → List ℕ → Told → Seen F → Seen F → Type 0
IsRenamedToFree state is_flushed caller hangs node name directory new_name reply old new =
    IsSought state is_flushed caller hangs node name directory new_name reply old new
    ⊎ IsRefused (LacksPath hangs directory (Some new_name)) reply old new

-- ---- control calls

abbrev pub SaysFlagged : Told → List Answer → Type 0
SaysFlagged reply given = SaysOr (refusal_in given) (reply ≡ told.Ioctl) reply

-- the flags of a node were set, of which it had these at present
pub record AreFlagsSet {F : Type 0} (state : F → StoreState) (is_flushed : F → Type 0)
    (caller : Caller)
    (hangs : ℕ → Option Hang) (node bits : ℕ) (present : ℕ) (reply : Told)
    (old new : Seen F) : Type 0 where
  pub path : List (List ℕ)
  pub leads : IsPathOf hangs node None path
  pub made : IsCalledOnce state is_flushed caller (Chflags path (flags_wanted present bits))
      (SaysFlagged reply) old new

-- no call was made: there are no such flags, or no path of the node
pub record AreFlagsLeft {F : Type 0} (hangs : ℕ → Option Hang) (node : ℕ) (reply : Told)
    (old new : Seen F) : Type 0 where
  pub error : IsFault errno.EOPNOTSUPP reply ⊎ IsError (LacksPath hangs node None) reply
  pub none : new ≡ old

abbrev pub IsFlagsSet : {F : Type 0} → (F → StoreState) → (F → Type 0) → Caller → (ℕ → Option Hang)
    → ℕ → ℕ → Told
    → Seen F → Seen F → ℕ → Type 0
IsFlagsSet state is_flushed caller hangs node bits reply old new present =
    AreFlagsSet state is_flushed caller hangs node bits present reply old new
    ⊎ AreFlagsLeft hangs node reply old new

-- what a control call does, of a node that has these flags
abbrev pub GoesOnFlags : {F : Type 0} → (F → StoreState) → (F → Type 0) → Caller → (ℕ → Option Hang)
    → ℕ → Command
    → Told → Seen F → Seen F → ℕ → Type 0
GoesOnFlags state is_flushed caller hangs node command.GetFlags reply old new present =
    (reply ≡ told.Flags (flags_shown present 0x10 0x20 0x40)) × (new ≡ old)
GoesOnFlags state is_flushed caller hangs node command.GetExtended reply old new present =
    (reply ≡ told.Extended (flags_shown present 0x8 0x10 0x80)) × (new ≡ old)
GoesOnFlags state is_flushed caller hangs node (command.SetFlags bits) reply old new present =
    IsFlagsSet state is_flushed caller hangs node bits reply old new present
GoesOnFlags state is_flushed caller hangs node (command.Other number) reply old new present =
    (reply ≡ told.Error errno.ENOTTY) × (new ≡ old)

abbrev pub IsFlagged : {F : Type 0} → (F → StoreState) → (F → Type 0) → Caller → (ℕ → Option Hang)
    → ℕ → Ioctl → Told
    → Seen F → Seen F → Type 0
IsFlagged state is_flushed caller hangs node fields reply old new =
    IsLookedAt state is_flushed caller hangs node (ioctl fields) reply old new
    (λ between present. GoesOnFlags state is_flushed caller hangs node fields.command reply between
    new present.flags)
    ⊎ IsRefused (LacksPath hangs node None) reply old new

-- ---- a file that is closed

-- A mode was given to a node's file, as this caller.
pub record IsGiven {F : Type 0} (state : F → StoreState) (is_flushed : F → Type 0) (caller : Caller)
    (hangs : ℕ → Option Hang) (node mode : ℕ) (old new : Seen F) : Type 0 where
  pub path : List (List ℕ)
  pub leads : IsPathOf hangs node None path
  pub answers : List Answer
  pub made : AreMade state is_flushed caller (Chmod path mode ∷ []) answers old new

-- the same, or no call was made
abbrev pub IsGivenOrNot : {F : Type 0} → (F → StoreState) → (F → Type 0) → Caller
    → (ℕ → Option Hang) → ℕ → ℕ → Seen F
    → Seen F → Type 0
IsGivenOrNot state is_flushed caller hangs node mode old new =
    IsGiven state is_flushed caller hangs node mode old new
    ⊎ (new ≡ old)

-- the mode that is due was given, if there is one
abbrev pub IsReleased : {F : Type 0} → (F → StoreState) → (F → Type 0) → Caller → (ℕ → Option Hang)
    → ℕ → Option ℕ
    → Told → Seen F → Seen F → Type 0
IsReleased state is_flushed caller hangs node None reply old new = (reply ≡ told.Done) × (new ≡ old)
IsReleased state is_flushed caller hangs node (Some mode) reply old new =
    (reply ≡ told.Done) × IsGivenOrNot state is_flushed caller hangs node mode old new

-- ---- a directory that is opened

-- Its names were asked for, as this caller, and the handle that is told keeps those that the answer shows; or the error
-- of the answer is told.
pub record IsListed {F : Type 0} (state : F → StoreState) (is_flushed : F → Type 0)
    (caller : Caller)
    (hangs : ℕ → Option Hang) (node : ℕ) (message : Said) (lists listed : Listings) (reply : Told)
    (old new : Seen F) : Type 0 where
  pub answers : List Answer
  pub made : AreAskedAndMade state is_flushed caller hangs node message answers old new
  pub keeps : Unless (refusal_in answers) reply (listed ≡ lists)
      (KeepsShown (names_in answers) lists listed reply)

-- no call was made, as there is no path of the node, and no directory opened
pub record IsUnlisted {F : Type 0} (hangs : ℕ → Option Hang) (node : ℕ)
    (lists listed : Listings) (reply : Told)
    (old new : Seen F) : Type 0 where
  pub refused : IsRefused (LacksPath hangs node None) reply old new
  pub same : listed ≡ lists

abbrev pub IsDirectoryOpened : {F : Type 0} → (F → StoreState) → (F → Type 0) → Caller
    → (ℕ → Option Hang) → ℕ → Open → Listings → Listings → Told → Seen F → Seen F → Type 0
IsDirectoryOpened state is_flushed caller hangs node fields lists listed reply old new =
    IsListed state is_flushed caller hangs node (opendir fields) lists listed reply old new
    ⊎ IsUnlisted hangs node lists listed reply old new

-- ---- any message

-- no call is made
pub record IsIdle {F : Type 0} (Tells : Told → Type 0) (reply : Told)
    (old new : Seen F) : Type 0 where
  pub tells : Tells reply
  pub none : new ≡ old

-- what is told of a message of which nothing but the kind is read
abbrev pub error_of_unserved : Unserved → Errno
error_of_unserved kinds.Link = errno.EPERM
error_of_unserved kinds.Symlink = errno.EPERM
error_of_unserved kinds.Readlink = errno.EINVAL
error_of_unserved kinds.Fallocate = errno.EOPNOTSUPP
error_of_unserved kinds.Tmpfile = errno.EOPNOTSUPP
error_of_unserved kind = errno.ENOSYS

-- a device, a pipe or a link isn't made
abbrev pub IsMade : {F : Type 0} → Option FileKind → Type 0 → Told → Seen F → Seen F → Type 0
IsMade (Some Regular) Goes reply old new = Goes
IsMade kind Goes reply old new = IsIdle (IsFault errno.EPERM) reply old new

-- by what becomes of an entry that has the new name
abbrev pub IsRename : {F : Type 0} → RenameMode → Type 0 → Type 0 → Told → Seen F → Seen F → Type 0
IsRename mode.Replace Replaces Seeks reply old new = Replaces
IsRename mode.NoReplace Replaces Seeks reply old new = Seeks
IsRename mode.Exchange Replaces Seeks reply old new = IsIdle (IsFault errno.EINVAL) reply old new
IsRename mode.Other Replaces Seeks reply old new = IsIdle (IsFault errno.EINVAL) reply old new

-- What comes of a message to a node: which calls it makes, as this caller and no other, and what their answers have it
-- told.
abbrev pub IsTold : {F : Type 0} → (F → StoreState) → (F → Type 0) → Sizes → Option ℕ → Caller
    → Parts → Parts → Listings → Listings → ℕ
    → Said → Told → Seen F → Seen F → Type 0
IsTold state is_flushed sizes due caller nodes nodes_after lists listed node
    (lookup name) reply old new =
    IsHandled state is_flushed caller nodes nodes_after node (lookup name) reply old new
IsTold state is_flushed sizes due caller nodes nodes_after lists listed node
    (getattr fields) reply old new =
    IsHandled state is_flushed caller nodes nodes_after node (getattr fields) reply old new
IsTold state is_flushed sizes due caller nodes nodes_after lists listed node
    (access wanted) reply old new =
    IsHandled state is_flushed caller nodes nodes_after node (access wanted) reply old new
IsTold state is_flushed sizes due caller nodes nodes_after lists listed node
    (mknod fields name) reply old new =
    IsMade fields.kind (IsHandled state is_flushed caller nodes nodes_after node
    (mknod fields name) reply old new) reply old new
IsTold state is_flushed sizes due caller nodes nodes_after lists listed node
    (mkdir fields name) reply old new =
    IsHandled state is_flushed caller nodes nodes_after node (mkdir fields name) reply old new
IsTold state is_flushed sizes due caller nodes nodes_after lists listed node
    (create fields name) reply old new =
    IsHandled state is_flushed caller nodes nodes_after node (create fields name) reply old new
IsTold state is_flushed sizes due caller nodes nodes_after lists listed node
    (unlink name) reply old new =
    IsHandled state is_flushed caller nodes nodes_after node (unlink name) reply old new
IsTold state is_flushed sizes due caller nodes nodes_after lists listed node
    (rmdir name) reply old new =
    IsHandled state is_flushed caller nodes nodes_after node (rmdir name) reply old new
IsTold state is_flushed sizes due caller nodes nodes_after lists listed node
    (opening fields) reply old new =
    IsHandled state is_flushed caller nodes nodes_after node (opening fields) reply old new
IsTold state is_flushed sizes due caller nodes nodes_after lists listed node
    (read fields) reply old new =
    IsHandled state is_flushed caller nodes nodes_after node (read fields) reply old new
IsTold state is_flushed sizes due caller nodes nodes_after lists listed node
    (write fields bytes) reply old new =
    IsHandled state is_flushed caller nodes nodes_after node (write fields bytes) reply old new
IsTold state is_flushed sizes due caller nodes nodes_after lists listed node
    (opendir fields) reply old new =
    IsDirectoryOpened state is_flushed caller
    (hangs_in nodes) node fields lists listed reply old new
IsTold state is_flushed sizes due caller nodes nodes_after lists listed node
    (setattr fields) reply old new =
    IsSetAttr state is_flushed caller (hangs_in nodes) node fields reply old new
IsTold state is_flushed sizes due caller nodes nodes_after lists listed node
    (ioctl fields) reply old new =
    IsFlagged state is_flushed caller (hangs_in nodes) node fields reply old new
IsTold state is_flushed sizes due caller nodes nodes_after lists listed node
    (rename fields name new_name) reply old new =
    IsRename fields.mode
    (IsRenamed state is_flushed caller (hangs_in nodes) node name fields.directory new_name reply
    old new)
    (IsRenamedToFree state is_flushed caller (hangs_in nodes) node name fields.directory new_name
    reply old new)
    reply old new
IsTold state is_flushed sizes due caller nodes nodes_after lists listed node
    (fsync fields) reply old new =
    IsSynced state is_flushed caller reply old new
IsTold state is_flushed sizes due caller nodes nodes_after lists listed node
    (fsyncdir fields) reply old new =
    IsSynced state is_flushed caller reply old new
IsTold state is_flushed sizes due caller nodes nodes_after lists listed node
    (init fields) reply old new =
    IsIdle (λ it. it ≡ told.Init (init_told fields)) reply old new
IsTold state is_flushed sizes due caller nodes nodes_after lists listed node statfs reply old new =
    IsIdle (IsRoom sizes (state old.store)) reply old new
IsTold state is_flushed sizes due caller nodes nodes_after lists listed node
    (readdir fields) reply old new =
    IsIdle (TellsEntries (names_at lists fields.handle) fields) reply old new
IsTold state is_flushed sizes due caller nodes nodes_after lists listed node
    (readdirplus fields) reply old new =
    IsIdle (IsFault errno.ENOSYS) reply old new
IsTold state is_flushed sizes due caller nodes nodes_after lists listed node
    (unserved kind) reply old new =
    IsIdle (IsFault (error_of_unserved kind)) reply old new
IsTold state is_flushed sizes due caller nodes nodes_after lists listed node
    (unknown number) reply old new =
    IsIdle (IsFault errno.ENOSYS) reply old new
IsTold state is_flushed sizes due caller nodes nodes_after lists listed node
    (release fields) reply old new =
    IsReleased state is_flushed caller (hangs_in nodes) node due reply old new
IsTold state is_flushed sizes due caller nodes nodes_after lists listed node message reply old new =
    IsIdle (λ it. it ≡ told.Done) reply old new
