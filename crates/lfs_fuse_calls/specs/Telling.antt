-- What a kernel is told of the answers to the calls of a message.
use Rattle.std.specs.Prelude.{◌≡◌, ℕ, ◌+◌, ◌*◌, ◌==◌, min, Bool, true, false, ◌&&◌, ◌||◌, not, List, [], ◌∷◌, length}
use Rattle.std.specs.Prelude.{Option, None, Some, if◌then◌else◌, ⊤}
use Rattle.std.specs.Int.RustNames.{bit_and}
use Rattle.lfs_types.specs.Caller.{Caller}
use Rattle.lfs_types.specs.Kinds.{is_directory_kind}
use Rattle.lfs_types.specs.declared.answer.Answer.{Answer}
use Rattle.lfs_types.specs.declared.answer.Answer.TheVariants as answers
use Rattle.lfs_types.specs.declared.answer.Served.TheVariants as served
use Rattle.lfs_types.specs.declared.attrs.Attrs.{Attrs}
use Rattle.lfs_types.specs.declared.attrs.Bit.TheVariants as bit
use Rattle.lfs_rules.specs.Grants.{grants_of}
use Rattle.lfs_rules.specs.Locks.{is_immutable}
use Rattle.lfs_fuse_wire.specs.declared.attributes.Access.{Access}
use Rattle.lfs_fuse_wire.specs.declared.flags.OpenFlags.{OpenFlags}
use Rattle.lfs_fuse_wire.specs.Said.{Said, lookup, getattr, access, mknod, mkdir, create, unlink, rmdir, opening, read}
use Rattle.lfs_fuse_wire.specs.Said.{write, opendir}
use Rattle.lfs_fuse_reply.specs.declared.errno.Errno.{Errno}
use Rattle.lfs_fuse_reply.specs.declared.errno.Errno.TheVariants as errno
use Rattle.lfs_fuse_reply.specs.declared.reply.Opened.{Opened}
use Rattle.lfs_fuse_calls.specs.Attrs.{attr_of}
use Rattle.lfs_fuse_calls.specs.Errors.{refusal_of}
use Rattle.lfs_fuse_calls.specs.Shown.{all_bytes, is_served}
use Rattle.lfs_fuse_calls.specs.declared.telling.Seen.{Seen}
use Rattle.lfs_fuse_calls.specs.declared.told.Told.{Told}
use Rattle.lfs_fuse_calls.specs.declared.told.Told.TheVariants as told

abbrev pub seen_of : Answer → Option Seen
seen_of (answers.Served (served.Stat number attrs)) = Some (record { number = number; attrs = attrs })
seen_of answer = None

-- the first, or else the second
abbrev pub or_else : {X : Type 0} → Option X → Option X → Option X
or_else (Some x) second = Some x
or_else None second = second

-- what the first of the Stats among answers shows
abbrev pub seen_in : List Answer → Option Seen
seen_in [] = None
seen_in (answer ∷ rest) = or_else (seen_of answer) (seen_in rest)

-- the error of the first answer that isn't served
abbrev pub refusal_in : List Answer → Option Errno
refusal_in [] = None
refusal_in (answer ∷ rest) = or_else (refusal_of answer) (refusal_in rest)

-- the error of the first answer, if that isn't served
abbrev pub refusal_at_once : List Answer → Option Errno
refusal_at_once [] = None
refusal_at_once (answer ∷ rest) = refusal_of answer

-- how many answers are served
abbrev pub count_served : List Answer → ℕ
count_served [] = 0
count_served (answer ∷ rest) = (if is_served answer then 1 else 0) + count_served rest

-- how many of so many bytes were written by pieces of 4,096, at most 32
abbrev pub written_by : ℕ → List Answer → ℕ
written_by size given = min (4096 * min 32 (count_served given)) size

-- a handle that tells nothing apart: each read and write names its file
abbrev pub opened_file : Opened
opened_file = record { handle = 0; direct_io = true }

-- whether a mode lets somebody run a file
abbrev pub is_runnable : ℕ → Bool
is_runnable mode = not (bit_and mode 0o111 == 0)

-- whether a caller may run a file, or search a directory: a file that nobody may run not even the superuser
abbrev pub may_run : Caller → Attrs → Bool
may_run caller attrs = grants_of caller attrs bit.Search && (is_directory_kind attrs.kind || is_runnable attrs.mode)

-- whether a mode grants what is asked
abbrev pub is_granted : Caller → Access → Attrs → Bool
is_granted caller wanted attrs =
    (not wanted.read || grants_of caller attrs bit.Read)
    && (not wanted.write || grants_of caller attrs bit.Write)
    && (not wanted.execute || may_run caller attrs)

abbrev pub granted : Bool → Told → Told
granted true reply = reply
granted false reply = told.Error errno.EACCES

-- that nobody writes what is immutable is told first
abbrev pub access_to : Caller → Access → Attrs → Told
access_to caller wanted attrs =
    if wanted.write && is_immutable attrs then told.Error errno.EPERM
    else granted (is_granted caller wanted attrs) told.Done

-- what is told of a file that is opened to run it
abbrev pub run_told : Caller → Option Seen → Told
run_told caller (Some seen) = granted (may_run caller seen.attrs) (told.Open opened_file)
run_told caller None = told.Error errno.EIO

-- what is told of a file that is opened: one that is to be run may be run by its caller
abbrev pub opened_told : Caller → OpenFlags → Option Seen → Told
opened_told caller flags seen = if flags.exec then run_told caller seen else told.Open opened_file

-- an entry with the attributes that a Stat shows; a node may be wanting, for a fault that no rule has
abbrev pub TellsEntry : Option Seen → Told → Type 0
TellsEntry (Some seen) (told.Entry entry) = entry.attr ≡ attr_of seen.number seen.attrs
TellsEntry (Some seen) (told.Error errno.ESTALE) = ⊤
TellsEntry (Some seen) (told.Error errno.EOVERFLOW) = ⊤
TellsEntry (Some seen) (told.Error errno.ENOMEM) = ⊤
TellsEntry (Some seen) (told.Error errno.EIO) = ⊤
TellsEntry None (told.Error errno.EIO) = ⊤
TellsEntry seen reply = ⊥

-- the same of a file that is opened too
abbrev pub TellsCreated : Option Seen → Told → Type 0
TellsCreated (Some seen) (told.Create entry opened) = (entry.attr ≡ attr_of seen.number seen.attrs)
    × (opened ≡ opened_file)
TellsCreated (Some seen) (told.Error errno.ESTALE) = ⊤
TellsCreated (Some seen) (told.Error errno.EOVERFLOW) = ⊤
TellsCreated (Some seen) (told.Error errno.ENOMEM) = ⊤
TellsCreated (Some seen) (told.Error errno.EIO) = ⊤
TellsCreated None (told.Error errno.EIO) = ⊤
TellsCreated seen reply = ⊥

-- a directory's handle, or want of memory for its names
abbrev pub TellsListing : Told → Type 0
TellsListing (told.Open opened) = opened.direct_io ≡ false
TellsListing (told.Error errno.ENOMEM) = ⊤
TellsListing (told.Error errno.EIO) = ⊤
TellsListing reply = ⊥

abbrev pub attr_told : Option Seen → Told
attr_told (Some seen) = told.Attr (attr_of seen.number seen.attrs)
attr_told None = told.Error errno.EIO

abbrev pub access_told : Caller → Access → Option Seen → Told
access_told caller wanted (Some seen) = access_to caller wanted seen.attrs
access_told caller wanted None = told.Error errno.EIO

-- these bytes, or want of memory
abbrev pub TellsBytes : List ℕ → Told → Type 0
TellsBytes bytes (told.Bytes given) = given.items ≡ bytes
TellsBytes bytes (told.Error errno.ENOMEM) = ⊤
TellsBytes bytes reply = ⊥

-- the name that a message tells, in the directory that its node is
abbrev pub named_in : Said → Option (List ℕ)
named_in (lookup name) = Some name
named_in (mknod fields name) = Some name
named_in (mkdir fields name) = Some name
named_in (create fields name) = Some name
named_in (unlink name) = Some name
named_in (rmdir name) = Some name
named_in message = None

-- The error that is told of answers: the first refusal; of reads and writes in pieces the first piece's alone, since
-- pieces before a refused one are told.
abbrev pub refusal_told : Said → List Answer → Option Errno
refusal_told (read fields) given = refusal_at_once given
refusal_told (write fields bytes) given = refusal_at_once given
refusal_told message given = refusal_in given

-- what is told of answers that are served
abbrev pub SaysServed : Caller → Said → List Answer → Told → Type 0
SaysServed caller (lookup name) given reply = TellsEntry (seen_in given) reply
SaysServed caller (mknod fields name) given reply = TellsEntry (seen_in given) reply
SaysServed caller (mkdir fields name) given reply = TellsEntry (seen_in given) reply
SaysServed caller (create fields name) given reply = TellsCreated (seen_in given) reply
SaysServed caller (getattr fields) given reply = reply ≡ attr_told (seen_in given)
SaysServed caller (access wanted) given reply = reply ≡ access_told caller wanted (seen_in given)
SaysServed caller (unlink name) given reply = reply ≡ told.Done
SaysServed caller (rmdir name) given reply = reply ≡ told.Done
SaysServed caller (opening fields) given reply = reply ≡ opened_told caller fields.flags (seen_in given)
SaysServed caller (read fields) given reply = TellsBytes (all_bytes given) reply
SaysServed caller (write fields bytes) given reply = reply ≡ told.Written (written_by (length bytes) given)
SaysServed caller (opendir fields) given reply = TellsListing reply
SaysServed caller message given reply = reply ≡ told.Error errno.EINVAL

abbrev pub SaysOr : Option Errno → Type 0 → Told → Type 0
SaysOr (Some error) Served reply = reply ≡ told.Error error
SaysOr None Served reply = Served

-- What a caller is told of the answers to a message: an error where one is refused, else what they show.
abbrev pub Says : Caller → Said → List Answer → Told → Type 0
Says caller message given reply = SaysOr (refusal_told message given) (SaysServed caller message given reply) reply
