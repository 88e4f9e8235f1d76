-- The journal of a mount, whose entries go to a file, where one is asked for.
use Rattle.std.specs.Prelude.{◌≡◌, ⊤, ◌⊎◌, ℕ, ◌+◌, Bool, true, false, List, [], ◌∷◌, ◌++◌, length}
use Rattle.std.specs.Prelude.{Option}
use Rattle.std.specs.Io.KnownBytes.{Appends}
use Rattle.lfs_model.specs.declared.journal.Entry.{Entry}
use Rattle.lfs_volume.specs.Seen.{Seen}
use Rattle.lfs_sinks.specs.Numbered.{numbered_text}
use Rattle.lfs_sinks.specs.declared.sink.LineSink.{LineSink}
use Rattle.lfs_fuse_reply.specs.declared.errno.Errno.TheVariants.{EDQUOT}
use Rattle.lfs_fuse_calls.specs.Told.{told_bytes}
use Rattle.lfs_fuse_calls.specs.declared.told.Told.TheVariants.{Error}
use Rattle.lfs_mount.specs.Tending.{closed, let_go}
use Rattle.lfs_fuse_talk.specs.declared.filing.Keeping.{Keeping}
use Rattle.lfs_fuse_talk.specs.declared.filing.Keeping.TheVariants.{Nowhere, File, Closed}

-- whether calls may be served: a file that is asked for takes more
abbrev pub is_open : {W : Type 0} → Keeping W → Bool
is_open Nowhere = true
is_open (File sink) = true
is_open Closed = false

-- a file took these entries: their lines stand behind what it held, numbered on
pub record Takes {W : Type 0} (contents : W → Option (List ℕ)) (old new : LineSink W)
    (entries : List Entry) : Type 0 where
  pub lines : Appends (contents old.writer) (contents new.writer) (numbered_text old.next entries)
  pub numbered : new.next ≡ old.next + length entries

-- nothing is handed out: there is no file, or it takes no more, or there is no entry
pub record Stays {F W : Type 0} (old new : Keeping W) (before after : Seen F) : Type 0 where
  pub same : new ≡ old
  pub volume : after ≡ before
  pub none : (sink : LineSink W) → old ≡ File sink → before.journal ≡ []

-- a file took the entries of a volume's journal, and they were handed out
pub record IsHandedOut {F W : Type 0} (contents : W → Option (List ℕ)) (old new : Keeping W)
    (before after : Seen F) : Type 0 where
  pub first : LineSink W
  pub then : LineSink W
  pub was : old ≡ File first
  pub is : new ≡ File then
  pub taken : Takes contents first then before.journal
  pub volume : after ≡ let_go before

-- there is no file, and the entries of a volume's journal were let go
pub record IsLetGo {F W : Type 0} (old new : Keeping W) (before after : Seen F) : Type 0 where
  pub was : old ≡ Nowhere
  pub is : new ≡ Nowhere
  pub volume : after ≡ let_go before

-- a file does not take the entries that there are, and no call is served from then on
pub record IsShut {F W : Type 0} (old new : Keeping W) (before after : Seen F) : Type 0 where
  pub first : LineSink W
  pub was : old ≡ File first
  pub is : new ≡ Closed
  pub volume : after ≡ closed before

-- A journal goes on: with the entries that it has, or those are handed out, or let go, and it begins anew at the present
-- tree. These were handed out by then.
abbrev pub MovesOn : {F : Type 0} → List Entry → Seen F → List Entry → Seen F → Type 0
MovesOn handed before then after =
    ((then ≡ handed) × (after ≡ before))
    ⊎ ((then ≡ handed ++ before.journal) × (after ≡ let_go before))

-- what a file has that takes more: behind what it held at first the line of each of these entries, in order, numbered
-- from 1 on
abbrev pub HasLines : {W : Type 0} → (W → Option (List ℕ)) → Option (List ℕ) → Keeping W
    → List Entry → Type 0
HasLines contents first (File sink) entries =
    Appends first (contents sink.writer) (numbered_text 1 entries)
HasLines contents first Nowhere entries = ⊤
HasLines contents first Closed entries = ⊤

-- the same of the entries that were handed out, where a file is asked for; the next one has the next number
abbrev pub IsCurrent : {W : Type 0} → (W → Option (List ℕ)) → Option (List ℕ) → Bool → Keeping W
    → List Entry → Type 0
IsCurrent contents first true (File sink) handed =
    Appends first (contents sink.writer) (numbered_text 1 handed)
    × (sink.next ≡ 1 + length handed)
IsCurrent contents first true Closed handed = ⊤
IsCurrent contents first true Nowhere handed = ⊥
IsCurrent contents first false Nowhere handed = ⊤
IsCurrent contents first false (File sink) handed = ⊥
IsCurrent contents first false Closed handed = ⊥

-- a file that is there where one is asked for, which gets the first line next, and holds these bytes, where they are
-- known
abbrev pub IsFirst : {W : Type 0} → (W → Option (List ℕ)) → Option (List ℕ) → Bool → Keeping W
    → Type 0
IsFirst contents first true (File sink) = (contents sink.writer ≡ first) × (sink.next ≡ 1)
IsFirst contents first true Closed = ⊥
IsFirst contents first true Nowhere = ⊥
IsFirst contents first false Nowhere = ⊤
IsFirst contents first false (File sink) = ⊥
IsFirst contents first false Closed = ⊥

-- a file's bytes, where they are known, grew by the lines of all these entries, numbered from 1 on
pub record HasFile {F : Type 0} (contents : F → Option (List ℕ))
    (entries : List Entry) : Type 0 where
  pub before : F
  pub after : F
  pub lines : Appends (contents before) (contents after) (numbered_text 1 entries)

-- the reply to the message of this number in place of this one, where that would tell of calls whose entries are lost:
-- that the journal is full, or none where none is wanted
abbrev pub lost_reply : ℕ → List ℕ → List ℕ
lost_reply unique [] = []
lost_reply unique (byte ∷ bytes) = told_bytes unique (Error EDQUOT)
