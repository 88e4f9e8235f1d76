-- What an audit has read, and where it stopped.
use Rattle.std.specs.Prelude.{◌≡◌, ◌+◌, ◌<◌, ℕ, List, [], ◌∷◌, ◌++◌, length, Option, None, Some, Result, Ok, Err}
use Rattle.std.specs.Io.KnownBytes.{Consumes, IsAtEnd}
use Rattle.std.specs.List.{All, flat_map}
use Rattle.lfs_types.specs.Tree.{World}
use Rattle.lfs_model.specs.declared.journal.Entry.{Entry}
use Rattle.lfs_model.specs.Steps.{world_after}
use Rattle.lfs_words.specs.Lines.{HasNoLineFeed}
use Rattle.lfs_journal_lines.specs.Numbering.{unnumbered}
use Rattle.lfs_journal_lines.specs.Reading.{entry_told}
use Rattle.lfs_journal_lines.specs.declared.fault.LineFault.{LineFault}
use Rattle.lfs_trace.specs.Checking.{IsSameStanding, StandsAt, numbers_of}
use Rattle.lfs_trace.specs.Errors.{IsEventAs, IsLegalAs}
use Rattle.lfs_trace.specs.declared.errors.Denials.{Denials}
use Rattle.lfs_auditing.specs.Lines.{IsPart}
use Rattle.lfs_auditing.specs.Users.{AreCounted}
use Rattle.lfs_auditing.specs.declared.audit.Audit.{Audit}
use Rattle.lfs_auditing.specs.declared.audit.Stop.{Stop}
use Rattle.lfs_auditing.specs.declared.audit.Stop.TheVariants as stops
use Rattle.lfs_auditing.specs.declared.fault.EntryLineFault.{EntryLineFault}
use Rattle.lfs_auditing.specs.declared.fault.EntryLineFault.TheVariants.{Cut, TooLong, Gap, Line}

-- the world behind entries from the one where the journal begins, of the volume whose journal is
-- audited
abbrev pub behind : World → Audit → List Entry → World
behind from a entries = world_after (numbers_of a.checker) entries from

-- an audit of a journal that begins in this world has read these entries: they are legal from
-- there, by what it compares of denials, and it stands behind them, has counted them, and each
-- user's
pub record HasRead (from : World) (a : Audit) (entries : List Entry) : Type 0 where
  pub legal : IsLegalAs a.denials (numbers_of a.checker) a.checker.segments entries from
  pub stands : StandsAt a.checker (behind from a entries)
  pub counted : a.entries ≡ length entries
  pub users : AreCounted a.users.counts entries

-- it has read nothing yet
abbrev pub HasReadNone : World → Audit → Type 0
HasReadNone from a = HasRead from a []

-- an audit of the same volume, which compares the same
pub record IsOfSame (old new : Audit) : Type 0 where
  pub numbers : numbers_of new.checker ≡ numbers_of old.checker
  pub segments : new.checker.segments ≡ old.checker.segments
  pub denials : new.denials ≡ old.denials

-- an audit puts down what an entry tells, and stands where it stood
pub record NotesOnly (old new : Audit) : Type 0 where
  pub checker : IsSameStanding old.checker new.checker
  pub users : new.users ≡ old.users
  pub entries : new.entries ≡ old.entries
  pub denials : new.denials ≡ old.denials

-- an entry isn't legal behind these
abbrev pub IsIllegalBehind : World → Audit → List Entry → Entry → Type 0
IsIllegalBehind from a entries entry = ¬ (IsEventAs a.denials (numbers_of a.checker)
    a.checker.segments (behind from a entries) entry.cred entry.event)

-- lines with their line feeds
abbrev pub lines_text : List (List ℕ) → List ℕ
lines_text lines = flat_map (λ line. line ++ 10 ∷ []) lines

-- what a line without its number tells: an entry, or why none
abbrev pub told_there : Result Entry LineFault → Result Entry EntryLineFault
told_there (Ok entry) = Ok entry
told_there (Err fault) = Err (Line fault)

abbrev pub told_of : Option (List ℕ) → Result Entry EntryLineFault
told_of None = Err Gap
told_of (Some text) = told_there (entry_told text)

-- what a line tells as that of the entry of this number, which may stand before it
abbrev pub told_as : ℕ → List ℕ → Result Entry EntryLineFault
told_as number line = told_of (unnumbered number line)

-- each line tells its entry, the first that of this number
abbrev pub AreTold : ℕ → List (List ℕ) → List Entry → Type 0
AreTold number [] [] = Unit {0}
AreTold number [] (entry ∷ entries) = ⊥
AreTold number (line ∷ lines) [] = ⊥
AreTold number (line ∷ lines) (entry ∷ entries) =
    (told_as number line ≡ Ok entry) × AreTold (number + 1) lines entries

-- why a line stops an audit that has read these entries: it tells an entry that isn't legal behind
-- them, or none
abbrev pub StopsAtLine : World → Audit → List Entry → List ℕ → Stop → Type 0
StopsAtLine from a entries line stops.End = ⊥
StopsAtLine from a entries line (stops.Illegal entry) =
    (told_as (length entries + 1) line ≡ Ok entry) × IsIllegalBehind from a entries entry
StopsAtLine from a entries line (stops.Unread Cut) = ⊥
StopsAtLine from a entries line (stops.Unread TooLong) = ⊥
StopsAtLine from a entries line (stops.Unread Gap) = told_as (length entries + 1) line ≡ Err Gap
StopsAtLine from a entries line (stops.Unread (Line fault)) =
    told_as (length entries + 1) line ≡ Err (Line fault)

-- what an audit that has read these entries read further, and where it stopped: at the end; behind
-- a line that tells no legal entry; at the end, behind bytes that no line feed ends; or within a
-- line that is too long
abbrev pub StopsBehind : Option (List ℕ) → Option (List ℕ) → World → Audit → List Entry → Stop
    → Type 0
StopsBehind known left from a entries stops.End = Consumes known left [] × IsAtEnd left
StopsBehind known left from a entries (stops.Unread Cut) =
    (part : List ℕ) × IsPart known left part × IsAtEnd left × (0 < length part)
StopsBehind known left from a entries (stops.Unread TooLong) =
    (part : List ℕ) × IsPart known left part × (4194304 < length part)
StopsBehind known left from a entries stop =
    (line : List ℕ) × HasNoLineFeed line × Consumes known left (line ++ 10 ∷ [])
    × StopsAtLine from a entries line stop

-- an audit that had read these entries read a line more, from these bytes, where they are known: it
-- tells a legal entry
pub record HasReadLine (known left : Option (List ℕ)) (from : World) (entries : List Entry)
    (a : Audit) : Type 0 where
  pub line : List ℕ
  pub entry : Entry
  pub whole : HasNoLineFeed line
  pub taken : Consumes known left (line ++ 10 ∷ [])
  pub told : told_as (length entries + 1) line ≡ Ok entry
  pub read : HasRead from a (entries ++ entry ∷ [])

-- An audit that has read these entries, of a journal that begins in this world, read on, from these
-- bytes, where they are known: lines that tell more entries, all of them legal, up to where it
-- stopped.
pub record HasReadOn (known left : Option (List ℕ)) (from : World) (entries : List Entry)
    (a : Audit) (stop : Stop) : Type 0 where
  pub lines : List (List ℕ)
  pub more : List Entry
  pub rest : Option (List ℕ)
  pub told : AreTold (length entries + 1) lines more
  pub whole : All HasNoLineFeed lines
  pub taken : Consumes known rest (lines_text lines)
  pub read : HasRead from a (entries ++ more)
  pub stopped : StopsBehind rest left from a (entries ++ more) stop

-- the status of an audit that stopped there: 0 at the end, where all that was read is legal
abbrev pub status_of : Stop → ℕ
status_of stops.End = 0
status_of (stops.Illegal entry) = 1
status_of (stops.Unread why) = 1

-- A journal of these bytes, where they are known, of a volume with these numbers was audited from
-- this world, by this much of denials, and the audit ended with this status by where it stopped.
pub record IsAudited (known : Option (List ℕ)) (denials : Denials) (from : World)
    (inodes segments status : ℕ) : Type 0 where
  pub audit : Audit
  pub stop : Stop
  pub left : Option (List ℕ)
  pub read : HasReadOn known left from [] audit stop
  pub numbers_are : numbers_of audit.checker ≡ inodes
  pub segments_are : audit.checker.segments ≡ segments
  pub denials_are : audit.denials ≡ denials
  pub status_is : status ≡ status_of stop
