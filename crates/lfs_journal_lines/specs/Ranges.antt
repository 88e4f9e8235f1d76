-- What the types of an entry's parts keep, and which entries a journal may have.
use Rattle.std.specs.Prelude.{◌≡◌, ℕ, ◌^◌, ◌<◌, ◌≤◌, slice_index, true, List, length, None}
use Rattle.std.specs.List.{All}
use Rattle.lfs_types.specs.Caller.{Caller}
use Rattle.lfs_types.specs.FlagNumbers.{IsKnown}
use Rattle.lfs_types.specs.Naming.{name_fault}
use Rattle.lfs_types.specs.Paths.{slashed}
use Rattle.lfs_types.specs.declared.answer.Answer.{Answer}
use Rattle.lfs_types.specs.declared.answer.Answer.TheVariants.{Served as Shows, Denied, Refused}
use Rattle.lfs_types.specs.declared.answer.Resource.TheVariants.{NoMemory, JournalFull}
use Rattle.lfs_types.specs.declared.answer.Served.{Served}
use Rattle.lfs_types.specs.declared.answer.Served.TheVariants as shows
use Rattle.lfs_types.specs.declared.attrs.Attrs.{Attrs}
use Rattle.lfs_types.specs.declared.cleaner.CleanFault.TheVariants.{Live}
use Rattle.lfs_types.specs.declared.request.Place.{Place}
use Rattle.lfs_types.specs.declared.request.Place.TheVariants.{At, End}
use Rattle.lfs_types.specs.declared.request.Request.{Request}
use Rattle.lfs_types.specs.declared.request.Request.TheVariants.{Stat, Read, Write, List as Names, SetLength, Create}
use Rattle.lfs_types.specs.declared.request.Request.TheVariants.{Mkdir, Unlink, Rmdir, Rename, Chmod, Chown, Chflags}
use Rattle.lfs_types.specs.declared.request.Request.TheVariants.{SetLevel, Sync}
use Rattle.lfs_model.specs.declared.asking.CleanerAct.{CleanerAct}
use Rattle.lfs_model.specs.declared.asking.CleanerAct.TheVariants as acts
use Rattle.lfs_model.specs.declared.journal.CleanerOutcome.{CleanerOutcome}
use Rattle.lfs_model.specs.declared.journal.CleanerOutcome.TheVariants as outcome
use Rattle.lfs_model.specs.declared.journal.Event.{Event}
use Rattle.lfs_model.specs.declared.journal.Event.TheVariants.{User, Cleaner}
use Rattle.lfs_words.specs.CallerText.{AreShort}
use Rattle.lfs_words.specs.Infos.{IsShortInfo}

abbrev pub AreBytes : List ℕ → Type 0
AreBytes bytes = (k : ℕ) → slice_index bytes k < 256

-- a name without a fault, of bytes
pub record IsName (name : List ℕ) : Type 0 where
  pub fine : name_fault name ≡ None
  pub bytes : AreBytes name

-- names of at most 1,024 bytes with their slashes
pub record IsPath (names : List (List ℕ)) : Type 0 where
  pub each : All IsName names
  pub few : length (slashed names) ≤ 1024

-- a place of 64 bits
abbrev pub IsPlace : Place → Type 0
IsPlace (At off) = off < 2 ^ 64
IsPlace End = Unit {0}

-- bytes that a Write may bring
pub record IsPayload (payload : List ℕ) : Type 0 where
  pub bytes : AreBytes payload
  pub few : length payload ≤ 4096

abbrev pub AreFlags : ℕ → Type 0
AreFlags flags = (flags < 2 ^ 32) × IsKnown flags

-- the operands of a call are in their ranges
abbrev pub IsRequest : Request → Type 0
IsRequest (Stat path) = IsPath path
IsRequest (Read path off len) = IsPath path × (off < 2 ^ 64) × (len < 2 ^ 32)
IsRequest (Write path place bytes) = IsPath path × IsPlace place × IsPayload bytes
IsRequest (Names path) = IsPath path
IsRequest (SetLength path len) = IsPath path × (len < 2 ^ 64)
IsRequest (Create path mode) = IsPath path × (mode < 4096)
IsRequest (Mkdir path mode) = IsPath path × (mode < 4096)
IsRequest (Unlink path) = IsPath path
IsRequest (Rmdir path) = IsPath path
IsRequest (Rename from to) = IsPath from × IsPath to
IsRequest (Chmod path mode) = IsPath path × (mode < 4096)
IsRequest (Chown path uid gid) = IsPath path × (uid < 2 ^ 32) × (gid < 2 ^ 32)
IsRequest (Chflags path flags) = IsPath path × AreFlags flags
IsRequest (SetLevel level) = Unit {0}
IsRequest Sync = Unit {0}

pub record AreAttrs (attrs : Attrs) : Type 0 where
  pub uid : attrs.uid < 2 ^ 32
  pub gid : attrs.gid < 2 ^ 32
  pub mode : attrs.mode < 4096
  pub flags : AreFlags attrs.flags
  pub size : attrs.size < 2 ^ 64

-- what a call shows is in its ranges
abbrev pub IsShown : Served → Type 0
IsShown (shows.Stat number attrs) = (number < 2 ^ 32) × AreAttrs attrs
IsShown (shows.Bytes bytes) = AreBytes bytes
IsShown (shows.Names names) = All IsName names
IsShown shows.Done = Unit {0}

abbrev pub IsAnswer : Answer → Type 0
IsAnswer (Shows shown) = IsShown shown
IsAnswer (Denied denial) = (denial.path < 256) × (denial.at < 2 ^ 32)
IsAnswer (Refused resource) = Unit {0}

-- the segment or the infos of a call of the cleaner are in their ranges
abbrev pub IsAct : CleanerAct → Type 0
IsAct acts.Ifile = Unit {0}
IsAct (acts.Infos segment) = segment < 2 ^ 32
IsAct (acts.Bmapv infos) = All IsShortInfo infos × (length infos ≤ 248)
IsAct (acts.Markv marks) = All IsShortInfo marks × (length marks ≤ 8)
IsAct (acts.Segclean segment) = segment < 2 ^ 32
IsAct acts.Gain = Unit {0}

abbrev pub IsOutcome : CleanerOutcome → Type 0
IsOutcome (outcome.Done number) = number < 2 ^ 32
IsOutcome (outcome.Fault (Live bytes)) = bytes < 2 ^ 32
IsOutcome came = Unit {0}

-- what an event asks and tells is in its ranges
abbrev pub IsEvent : Event → Type 0
IsEvent (User request answer) = IsRequest request × IsAnswer answer
IsEvent (Cleaner act came) = IsAct act × IsOutcome came

-- a user, 1 to 16 groups, and init for the superuser alone
pub record IsCaller (cred : Caller) : Type 0 where
  pub user : cred.uid < 2 ^ 32
  pub groups : AreShort cred.groups
  pub some : 1 ≤ length cred.groups
  pub few : length cred.groups ≤ 16
  pub root : cred.init ≡ true → cred.uid ≡ 0

-- ---- which entries a journal may have

-- an answer of which a journal has an entry: not for want of memory or of its own room, and at most 4,096 bytes of a
-- Read
abbrev pub IsKept : Answer → Type 0
IsKept (Shows (shows.Bytes bytes)) = length bytes ≤ 4096
IsKept (Refused NoMemory) = ⊥
IsKept (Refused JournalFull) = ⊥
IsKept answer = Unit {0}

-- an event that a line tells
abbrev pub IsTold : Event → Type 0
IsTold (User request answer) = IsKept answer
IsTold (Cleaner act came) = Unit {0}
