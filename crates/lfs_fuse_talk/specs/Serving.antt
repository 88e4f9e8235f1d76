-- A mount that answers messages, as the world outside tells.
use Rattle.std.specs.Prelude.{◌≡◌, ℕ, ◌==◌, ◌&&◌, ◌⊎◌, not, Bool, true, false, List, [], ◌∷◌, ◌++◌}
use Rattle.std.specs.Prelude.{Option, None, Some, IfSome, IsSomeAnd, is_some}
use Rattle.std.specs.List.{list_any}
use Rattle.lfs_types.specs.StoreStates.{StoreState}
use Rattle.lfs_volume.specs.Seen.{Seen}
use Rattle.lfs_model.specs.declared.journal.Entry.{Entry}
use Rattle.lfs_parts.specs.Store.{IsFlushed}
use Rattle.lfs_parts.specs.declared.parts.Parts.{Parts as Log}
use Rattle.lfs_logstore.specs.States.{state_of}
use Rattle.lfs_durable_store.specs.Keeping.{Durably, IsSettled, durable_state}
use Rattle.lfs_stands.specs.Stands.{Stand, durable_stand, log_stand}
use Rattle.lfs_nodes.specs.declared.parts.Parts.{Parts}
use Rattle.lfs_fuse_wire.specs.Header.{header_in}
use Rattle.lfs_fuse_wire.specs.Said.{said}
use Rattle.lfs_fuse_wire.specs.declared.attributes.Time.{Time}
use Rattle.lfs_fuse_wire.specs.declared.header.Header.{Header}
use Rattle.lfs_fuse_reply.specs.declared.errno.Errno.TheVariants.{EACCES}
use Rattle.lfs_fuse_calls.specs.Told.{told_bytes}
use Rattle.lfs_fuse_calls.specs.declared.told.Told.TheVariants.{Error}
use Rattle.lfs_mount.specs.Answered.{IsAnswered}
use Rattle.lfs_mount.specs.Groups.{NeedsNoGroups}
use Rattle.lfs_mount.specs.declared.mount.Beside.{Beside}
use Rattle.lfs_mount.specs.declared.mount.Sizes.{Sizes}
use Rattle.lfs_fuse_wire.specs.declared.framing.Frame.{Frame}
use Rattle.lfs_mount.specs.Runs.{GoesOn, LeadTo}
use Rattle.lfs_mount.specs.Tending.{closed}
use Rattle.lfs_fuse_talk.specs.Filing.{HasFile, HasLines, IsCurrent, IsFirst, MovesOn, is_open}
use Rattle.lfs_fuse_talk.specs.Filing.{lost_reply}
use Rattle.lfs_fuse_talk.specs.Images.{HasBegun, IsKept}
use Rattle.lfs_fuse_talk.specs.Talking.{Answering, HasTalked, answering_of}
use Rattle.lfs_fuse_talk.specs.declared.options.Options.{Options}
use Rattle.lfs_fuse_talk.specs.declared.served.Served.{Served}

-- a mount: its volume, its nodes, what it keeps beside them, and how large it was laid out; and the world outside it
pub record Holding (F P : Type 0) : Type 0 where
  pub volume : Seen F
  pub nodes : Parts
  pub beside : Beside
  pub sizes : Sizes
  pub outside : P

abbrev pub holding_of : {F P : Type 0} → Seen F → Parts → Beside → Sizes → P → Holding F P
holding_of volume nodes beside sizes outside =
    record { volume = volume; nodes = nodes; beside = beside; sizes = sizes; outside = outside }

-- a store, by what it shows; and the world outside, by what it tells: the time, and the groups of a message's process
-- but its header's, if they can be known, and what it is then
pub record Server (F P : Type 0) : Type 1 where
  pub state : F → StoreState
  pub is_flushed : F → Type 0
  pub time : P → Time → P → Type 0
  pub groups : P → Header → Option (List ℕ) → P → Type 0

abbrev pub server_of : {F P : Type 0} → (F → StoreState) → (F → Type 0) → (P → Time → P → Type 0)
    → (P → Header → Option (List ℕ) → P → Type 0) → Server F P
server_of state is_flushed time groups =
    record { state = state; is_flushed = is_flushed; time = time; groups = groups }

-- the same, and how the store stands on a log store
pub record Kind (F P : Type 0) : Type 1 where
  pub server : Server F P
  pub stand : Stand F

abbrev pub kind_with : {F P : Type 0} → Server F P → Stand F → Kind F P
kind_with server stand = record { server = server; stand = stand }

-- those of the log store itself, and of a durable store, which a crash leaves whole
abbrev pub log_kind : {P : Type 0} → (P → Time → P → Type 0)
    → (P → Header → Option (List ℕ) → P → Type 0) → Kind Log P
log_kind time groups = kind_with (server_of state_of IsFlushed time groups) log_stand

abbrev pub durable_kind : {P : Type 0} → (P → Time → P → Type 0)
    → (P → Header → Option (List ℕ) → P → Type 0) → Kind Durably P
durable_kind time groups = kind_with (server_of durable_state IsSettled time groups) durable_stand

-- the messages that make calls, by their numbers in the protocol
abbrev pub calling : List ℕ
calling = 1 ∷ 3 ∷ 4 ∷ 8 ∷ 9 ∷ 10 ∷ 11 ∷ 12 ∷ 14 ∷ 15 ∷ 16 ∷ 20 ∷ 27 ∷ 30 ∷ 34 ∷ 35 ∷ 39 ∷ 45 ∷ []

-- whether the groups of the caller may count: in a message that makes calls, and not of the superuser
abbrev pub are_wanted : Header → Bool
are_wanted header = not (header.uid == 0) && list_any (λ n. n == header.opcode) calling

-- whether the groups of the caller count, and why not: they can't, or the message needs none, as the mount stands
abbrev pub DoCount : {F : Type 0} → (F → StoreState) → Seen F → Parts → Header → List ℕ → Bool
    → Type 0
DoCount state volume nodes header message true = are_wanted header ≡ true
DoCount state volume nodes header message false = (are_wanted header ≡ false)
    ⊎ IsSomeAnd (said message) (NeedsNoGroups state volume nodes header)

-- the groups that the world outside tells, where they count, and else none
abbrev pub AreTold : {P : Type 0} → (P → Header → Option (List ℕ) → P → Type 0) → Bool → P
    → Header → Option (List ℕ)
    → P → Type 0
AreTold groups true old header found new = groups old header found new
AreTold groups false old header found new = (found ≡ Some []) × (new ≡ old)

-- the same of a message that came to a mount with this volume and these nodes
pub record AreGroups {F P : Type 0} (state : F → StoreState)
    (groups : P → Header → Option (List ℕ) → P → Type 0)
    (volume : Seen F) (nodes : Parts) (header : Header) (message : List ℕ) (old : P)
    (found : Option (List ℕ)) (new : P) : Type 0 where
  pub count : Bool
  pub why : DoCount state volume nodes header message count
  pub told : AreTold groups count old header found new

-- A mount answered a message that came now, of a process with these other groups: its calls were made with them, as
-- `Mount::answer` says; where they can't be known, it is denied and nothing is done.
abbrev pub IsAnsweredTo : {F P : Type 0} → Server F P → Time → Header → Option (List ℕ)
    → Holding F P → List ℕ → List ℕ
    → Holding F P → Type 0
IsAnsweredTo r now header None old message reply new =
    (reply ≡ told_bytes header.unique (Error EACCES)) × (new.volume ≡ old.volume)
    × (new.nodes ≡ old.nodes)
    × (new.beside ≡ old.beside) × (new.sizes ≡ old.sizes)
IsAnsweredTo r now header (Some others) old message reply new =
    IsAnswered r.state r.is_flushed old.sizes now old.nodes new.nodes others message [] reply
    old.volume new.volume old.beside
    new.beside × (new.sizes ≡ old.sizes)

-- the same of a message that came when the world outside told the time, of a process whose groups it told, where they
-- count
pub record IsServedTo {F P : Type 0} (r : Server F P) (header : Header) (old : Holding F P)
    (message reply : List ℕ)
    (new : Holding F P) : Type 0 where
  pub now : Time
  pub then : P
  pub others : Option (List ℕ)
  pub told : r.time old.outside now then
  pub groups : AreGroups r.state r.groups old.volume old.nodes header message then others
      new.outside
  pub answered : IsAnsweredTo r now header others old message reply new

-- a mount that answers messages, with this volume
abbrev pub held_over : {F P W : Type 0} → Seen F → Served F P W → Holding F P
held_over volume served =
    let mount = served.mount in
    holding_of volume mount.tree.nodes mount.beside mount.sizes served.outside

abbrev pub held : {F P W : Type 0} → Served F P W → Holding F P
held served = held_over served.mount.tree.volume served

-- a mount that answers messages, and the entries of its journal that were handed out, or let go, since it began
pub record Course (F P W : Type 0) : Type 0 where
  pub served : Served F P W
  pub handed : List Entry

abbrev pub course_of : {F P W : Type 0} → Served F P W → List Entry → Course F P W
course_of served handed = record { served = served; handed = handed }

-- all entries since it began
abbrev pub entered : {F P W : Type 0} → Course F P W → List Entry
entered course = course.handed ++ course.served.mount.tree.volume.journal

-- calls may be served
abbrev pub is_served : {F P W : Type 0} → Course F P W → Bool
is_served course = is_open course.served.ledger.keeping

-- a message's entries are kept, and this is its reply
pub record IsKeptWith {F P W : Type 0} (old : Course F P W) (passing : Seen F)
    (made reply : List ℕ) (new : Course F P W) : Type 0 where
  pub opened : is_served new ≡ is_served old
  pub moves : MovesOn old.handed passing new.handed new.served.mount.tree.volume
  pub same : reply ≡ made

-- the file does not take a message's entries: from then on no call is served, and the message is told that the journal
-- is full
pub record IsLostWith {F P W : Type 0} (unique : ℕ) (old : Course F P W) (passing : Seen F)
    (made reply : List ℕ) (new : Course F P W) : Type 0 where
  pub opened : is_served old ≡ true
  pub shut : is_served new ≡ false
  pub handed : new.handed ≡ old.handed
  pub volume : new.served.mount.tree.volume ≡ closed passing
  pub told : reply ≡ lost_reply unique made

-- The message of a header was served, and the journal went on, a legal run still. Before its reply is written, a file of
-- the journal that takes more has the line of each entry since the mount began, in order, each once, numbered from 1 on,
-- behind what it held at first.
pub record IsEntered {F P W : Type 0} (contents : W → Option (List ℕ)) (first : Option (List ℕ))
    (r : Server F P) (header : Header) (old : Course F P W) (message reply : List ℕ)
    (new : Course F P W) : Type 0 where
  pub passing : Seen F
  pub made : List ℕ
  pub served : IsServedTo r header (held old.served) message made (held_over passing new.served)
  pub goes_on : GoesOn r.state old.served.mount.tree.volume passing
  pub kept : IsKeptWith old passing made reply new
      ⊎ IsLostWith header.unique old passing made reply new
  pub lines : HasLines contents first new.served.ledger.keeping (entered new)

-- what comes of the bytes of a message: of those without a header nothing
abbrev pub IsServedOf : {F P W : Type 0} → (W → Option (List ℕ)) → Option (List ℕ) → Server F P
    → Option Header → Course F P W → List ℕ → List ℕ → Course F P W → Type 0
IsServedOf contents first r None old message reply new = (reply ≡ []) × (new ≡ old)
IsServedOf contents first r (Some header) old message reply new =
    IsEntered contents first r header old message reply new

abbrev pub IsServed : {F P W : Type 0} → (W → Option (List ℕ)) → Option (List ℕ) → Server F P
    → Course F P W → List ℕ → List ℕ → Course F P W → Type 0
IsServed contents first r old message reply new =
    IsServedOf contents first r (header_in message) old message reply new

-- Behind a message the cleaner may pass, and the journal goes on; or the file takes no more. No file and no level
-- changes, and nothing beside the volume.
pub record HasRested {F P W : Type 0} (contents : W → Option (List ℕ)) (first : Option (List ℕ))
    (state : F → StoreState) (old new : Course F P W) : Type 0 where
  pub passed : Seen F
  pub content : (state passed.store).content ≡ (state old.served.mount.tree.volume.store).content
  pub level : passed.level ≡ old.served.mount.tree.volume.level
  pub goes_on : GoesOn state old.served.mount.tree.volume passed
  pub moves : MovesOn old.handed passed new.handed new.served.mount.tree.volume
      ⊎ ((new.handed ≡ old.handed) × (new.served.mount.tree.volume ≡ closed passed))
  pub beside : held_over passed new.served ≡ held_over passed old.served
  pub lines : HasLines contents first new.served.ledger.keeping (entered new)

-- a mount that answers messages, whose file held these bytes at first, where they are known
abbrev pub serving : {F P W : Type 0} → (W → Option (List ℕ)) → Option (List ℕ) → Server F P
    → Answering (Course F P W)
serving contents first r =
    answering_of (IsServed contents first r) (HasRested contents first r.state)

-- what is done to a mount, wherever its journal stands by then
abbrev pub Advances : {F P W : Type 0} → (W → Option (List ℕ))
    → (Option (List ℕ) → Course F P W → Course F P W → Type 0) → Served F P W → Served F P W
    → Type 0
Advances contents Does old new =
    (first : Option (List ℕ)) (is_filed : Bool) (handed : List Entry)
    → IsCurrent contents first is_filed old.ledger.keeping handed
    → (after : List Entry) × Does first (course_of old handed) (course_of new after)
    × IsCurrent contents first is_filed new.ledger.keeping after

-- a mount begins as was asked: its volume, without an entry, and the file of its journal, where one is asked for
pub record BeginsServing {F P W : Type 0} (contents : W → Option (List ℕ)) (kind : Kind F P)
    (options : Options) (first : Option (List ℕ)) (old : Served F P W) : Type 0 where
  pub volume : HasBegun kind.server.state kind.stand options old.mount.tree.volume
  pub file : IsFirst contents first (is_some options.journal_out) old.ledger.keeping

-- A mount that began as was asked served the messages that were read, up to the end of the input, to a read that failed,
-- or to what is no message, and their replies were written. All entries since it began are a legal run from the tree and
-- the level that it began with to those that the messages left. Where the file of its journal took all, it has the line
-- of each entry; and the volume that the messages left is kept in a file, where an image is asked for.
pub record HasServed {F P W : Type 0} (contents : W → Option (List ℕ)) (kind : Kind F P)
    (options : Options) (known left start out : Option (List ℕ)) (left_over : Frame)
    (is_whole is_kept is_saved : Bool) : Type 0 where
  pub first : Option (List ℕ)
  pub old : Served F P W
  pub new : Course F P W
  pub begun : BeginsServing contents kind options first old
  pub talked : HasTalked (serving contents first kind.server) left_over (course_of old []) new
      is_whole known left start out
  pub legal : LeadTo kind.server.state old.mount.tree.volume (entered new)
      new.served.mount.tree.volume
  pub kept : is_served new ≡ is_kept
  pub filed : is_kept ≡ true → IfSome options.journal_out (λ _. HasFile contents (entered new))
  pub saved : is_saved ≡ true
      → IfSome options.image
      (λ _. IsKept contents kind.server.state new.served.mount.tree.volume)
