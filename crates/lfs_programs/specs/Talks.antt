-- How `lfs_shell` ends.
use Rattle.std.specs.Prelude.{◌≡◌, ◌≤◌, ℕ, Bool, false, true, List, ◌++◌, Option, Result, Ok, Err, IfErr, IfOk, IfSome}
use Rattle.std.specs.Prelude.{IsSome, None, Some, is_some, ◌⊎◌}
use Rattle.std.specs.Io.KnownBytes.{Appends}
use Rattle.clap.specs.Values.{kind_of}
use Rattle.clap.specs.declared.error.Error.{Error}
use Rattle.lfs_film.specs.Films.{Reel, page_text}
use Rattle.lfs_programs.specs.Ranges.{IsInRange}
use Rattle.lfs_programs.specs.declared.options.ShellOptions.{ShellOptions}
use Rattle.lfs_audit.specs.declared.fault.RunFault.{RunFault}
use Rattle.lfs_audit.specs.declared.fault.RunFault.TheVariants.{Read}
use Rattle.lfs_live.specs.Held.{Course, Held, Sink}
use Rattle.lfs_live.specs.Scripts.{IsJournalOf, IsLogFault, Manner, begins_with}
use Rattle.lfs_live.specs.Talking.{HasHeardSoFar, IsKeptTalk, IsTalk, has_fault_in}
use Rattle.lfs_programs.specs.Volumes.{HasSaved, IsBegun, IsUnfit, IsWritten, Kind, disk_kind, durable_kind, log_kind}
use Rattle.lfs_programs.specs.Volumes.{share_kind}
use Rattle.lfs_parts.specs.declared.parts.Parts.{Parts}
use Rattle.lfs_volume.specs.Seen.{Seen}
use Rattle.lfs_command.specs.Ends.{EndsUnasked}
use Rattle.lfs_programs.specs.declared.fault.FilmFault.{FilmFault}
use Rattle.lfs_programs.specs.declared.fault.ShellFault.{ShellFault}
use Rattle.lfs_programs.specs.declared.filming.Ending.{Ending}
use Rattle.lfs_programs.specs.declared.filming.Heard.{Heard}
use Rattle.lfs_programs.specs.declared.fault.ShellFault.TheVariants.{Disk, Film, Image, Journal, Line, Talk}
use Rattle.lfs_programs.specs.declared.fault.ShellFault.TheVariants.{Unfit as NoStand}
use Rattle.lfs_programs.specs.declared.fault.ShellFault.TheVariants.{Unsaved}
use Rattle.lfs_stands.specs.declared.unfit.Unfit.{Unfit}

-- how a talk goes: with a sink that takes the entries of its journal or without one, with passes unasked where they
-- are asked for, and framed as was asked
abbrev pub manner_of : ShellOptions → Bool → Manner
manner_of options is_open =
    record { is_open = is_open; cleans = options.cleans; framing = options.framing }

-- the volume that a talk left is kept in a file, where an image is asked for, and in the end on its disk, where one is
abbrev pub IsKept : {F S : Type 0} → (F → Option (List ℕ)) → Kind S → ShellOptions → Bool → Seen S → Seen S → Type 0
IsKept contents kind options is_saved left end =
    is_saved ≡ true → IfSome options.image (λ _. HasSaved contents kind.talker.cleaner.state left)
    × IfSome options.disk (λ _. IsWritten kind.talker.cleaner left end)

-- a volume over a kind of store begins as it is asked for
abbrev pub BeginsAs : {S : Type 0} → Kind S → ShellOptions → Seen S → Type 0
BeginsAs kind options = IsBegun kind.talker.cleaner.state kind.stand options

-- A volume was talked about, with its sink, up to the end, and kept behind that; and whether a line had a fault.
pub record HasHeard {F J S : Type 0} (contents : F → Option (List ℕ)) (kind : Kind S) (sink : Sink J)
    (options : ShellOptions) (ending : Ending) (old new : Held S J) (known left start out : Option (List ℕ))
    : Type 0 where
  pub after : Held S J
  pub talk : IsKeptTalk kind.talker options.framing sink old after ending.has_fault known left start out
  pub saved : IsKept contents kind options ending.is_saved after.volume new.volume
  pub same : new ≡ record after { volume = new.volume }

-- The bytes of a reader were talked about up to the end of the talk, with all entries in memory, and the volume was
-- kept; and whether one of the lines that were heard has a fault.
pub record HasAnswered {F S : Type 0} (contents : F → Option (List ℕ)) (kind : Kind S) (options : ShellOptions) (ending : Ending)
    (known left start out : Option (List ℕ)) : Type 0 where
  pub old : Seen S
  pub new : Course S
  pub begun : BeginsAs kind options old
  pub talk : IsTalk kind.talker options.framing (begins_with old (manner_of options false)) new known left start out
  pub end : Seen S
  pub saved : IsKept contents kind options ending.is_saved new.volume end
  pub faulty : ending.has_fault ≡ has_fault_in talk.heard

-- The same, and a file's bytes, where they are known, grew by the lines of all entries of the talk, numbered from 1 on,
-- where it took them to the end.
pub record HasFiled {F S : Type 0} (contents : F → Option (List ℕ)) (kind : Kind S) (options : ShellOptions) (ending : Ending)
    (known left start out : Option (List ℕ)) : Type 0 where
  pub old : Seen S
  pub new : Course S
  pub begun : BeginsAs kind options old
  pub talk : IsTalk kind.talker options.framing (begins_with old (manner_of options true)) new known left start out
  pub before : F
  pub after : F
  pub kept : ending.is_kept ≡ true
      → IsJournalOf 1 (contents before) (contents after) (new.handed ++ new.volume.journal)
  pub end : Seen S
  pub saved : IsKept contents kind options ending.is_saved new.volume end
  pub faulty : ending.has_fault ≡ has_fault_in talk.heard

-- The bytes of a reader were talked about up to the end of the talk: with all entries in memory, or with a file of the
-- journal, where one is asked for.
pub record HasTalked {F S : Type 0} (contents : F → Option (List ℕ)) (kind : Kind S) (options : ShellOptions) (ending : Ending)
    (known start out : Option (List ℕ)) : Type 0 where
  pub left : Option (List ℕ)
  pub alone : is_some options.journal_out ≡ false → HasAnswered contents kind options ending known left start out
  pub filed : is_some options.journal_out ≡ true → HasFiled contents kind options ending known left start out

-- how a talk ended that is kept whole
abbrev pub whole_with : Bool → Ending
whole_with has_fault = record { is_kept = true; is_saved = true; has_fault = has_fault }

-- the same up to a read that failed
pub record HasTalkedSoFar {F S : Type 0} (contents : F → Option (List ℕ)) (kind : Kind S) (options : ShellOptions)
    (known start out : Option (List ℕ)) : Type 0 where
  pub left : Option (List ℕ)
  pub old : Seen S
  pub new : Course S
  pub begun : BeginsAs kind options old
  pub heard : HasHeardSoFar kind.talker options.framing
      (begins_with old (manner_of options (is_some options.journal_out))) new known left start out

-- a file, whose bytes these are where they are known, got the page of a film
pub record HasPage {F : Type 0} (contents : F → Option (List ℕ)) (reel : Reel) : Type 0 where
  pub before : F
  pub after : F
  pub written : Appends (contents before) (contents after) (page_text reel)

-- a file got the page of some film
abbrev pub IsFilmed : {F : Type 0} → (F → Option (List ℕ)) → Type 0
IsFilmed contents = (reel : Reel) × HasPage contents reel

-- a file got the page of the film that watched a talk
abbrev pub IsFilmOf : {F : Type 0} → (F → Option (List ℕ)) → Option Reel → Type 0
IsFilmOf contents None = ⊥
IsFilmOf contents (Some reel) = HasPage contents reel

-- what a talk leaves is to be kept: in the file of an image, or on a disk
abbrev pub IsToBeKept : ShellOptions → Type 0
IsToBeKept options = IsSome options.image ⊎ IsSome options.disk

-- a talk may end in this fault: that of the talk or of its beginning; one of a film, a journal, an image or a disk only
-- where such a file is asked for; and one of a line only where that is asked for
abbrev pub IsShellFault : (Unfit → Parts → Type 0) → ShellOptions → ShellFault → Type 0
IsShellFault refuses options (Talk fault) = IsLogFault options.params.segments options.params.inodes options.params.frames fault
IsShellFault refuses options (Film fault) = IsSome options.film
IsShellFault refuses options Journal = IsSome options.journal_out
IsShellFault refuses options (Image fault) = IsSome options.image
IsShellFault refuses options (NoStand why) = IsUnfit refuses options why
IsShellFault refuses options (Disk fault) = IsSome options.disk
IsShellFault refuses options Unsaved = IsToBeKept options
IsShellFault refuses options Line = options.strict ≡ true

-- A talk's outcome, with what it has besides: the talk's fault; or its film's, whose page is written where it is done; or
-- that the file of its journal has not each entry, or the volume is not kept; or that a line had a fault, where that is
-- asked for.
abbrev pub Finishes : {F : Type 0} → (F → Option (List ℕ)) → ShellOptions → Result Heard RunFault
    → Result (Unit {0}) ShellFault → Type 0
Finishes contents options (Err fault) outcome = outcome ≡ Err (Talk fault)
Finishes contents options (Ok heard) (Ok done) =
    (heard.ending.is_kept ≡ true) × (heard.ending.is_saved ≡ true) × IfSome options.film (λ _. IsFilmOf contents heard.film)
    × (options.strict ≡ true → heard.ending.has_fault ≡ false)
Finishes contents options (Ok heard) (Err (Talk fault)) = ⊥
Finishes contents options (Ok heard) (Err (Image fault)) = ⊥
Finishes contents options (Ok heard) (Err (NoStand why)) = ⊥
Finishes contents options (Ok heard) (Err (Disk fault)) = ⊥
Finishes contents options (Ok heard) (Err (Film fault)) = IsSome options.film
Finishes contents options (Ok heard) (Err Journal) = heard.ending.is_kept ≡ false
Finishes contents options (Ok heard) (Err Unsaved) = (heard.ending.is_kept ≡ true) × (heard.ending.is_saved ≡ false)
Finishes contents options (Ok heard) (Err Line) =
    (heard.ending.is_kept ≡ true) × (heard.ending.is_saved ≡ true) × (options.strict ≡ true) × (heard.ending.has_fault ≡ true)

-- A talk ended in a fault, which has its cause. Where a read failed, each line that was read by then is answered; where
-- a film was not written, the file of the journal took no more, the volume was not kept, or one of the lines that were
-- heard has a fault, all is.
pub record HasBrokenOff {F S : Type 0} (contents : F → Option (List ℕ)) (kind : Kind S) (options : ShellOptions)
    (known start out : Option (List ℕ)) : Type 0 where
  pub fault : ShellFault
  pub cause : IsShellFault kind.stand.refuses options fault
  pub so_far : fault ≡ Talk Read → HasTalkedSoFar contents kind options known start out
  pub answered : (why : FilmFault) → fault ≡ Film why
      → (ending : Ending) × HasTalked contents kind options ending known start out
  pub unkept : fault ≡ Journal → (ending : Ending) × (ending.is_kept ≡ false)
      × HasTalked contents kind options ending known start out
  pub unsaved : fault ≡ Unsaved → (ending : Ending) × (ending.is_kept ≡ true) × (ending.is_saved ≡ false)
      × HasTalked contents kind options ending known start out
  pub faulty : fault ≡ Line → HasTalked contents kind options (whole_with true) known start out

-- a file is needed before anything is answered: that of the journal, or that of the lines
abbrev pub NeedsFile : ShellOptions → Type 0
NeedsFile options = IsSome options.journal_out ⊎ IsSome options.script

-- A program that was asked for a talk ends with this status: 0 where it has its end, a file of the journal that is
-- asked for has each entry, the volume is kept in a file where an image is asked for, and on its disk where one is, a film
-- that is asked for is written to a file, none of the lines that were heard has a fault where that is asked for, and nothing
-- is told; 2 where a file that is needed before could not be opened, and then nothing is read; else 1.
pub record EndsTalk {R W D F S : Type 0} (contents : F → Option (List ℕ)) (kind : Kind S) (options : ShellOptions)
    (known start out : Option (List ℕ)) (status : ℕ) (in_before in_after : R) (out_before out_after : W)
    (err_before err_after : D) : Type 0 where
  pub either : status ≤ 2
  pub done : status ≡ 0 → (has_fault : Bool) × HasTalked contents kind options (whole_with has_fault) known start out
      × (options.strict ≡ true → has_fault ≡ false) × (err_after ≡ err_before)
  pub filmed : status ≡ 0 → IfSome options.film (λ _. IsFilmed contents)
  pub failed : status ≡ 1 → HasBrokenOff contents kind options known start out
  pub unmade : status ≡ 2 → NeedsFile options × (in_after ≡ in_before) × (out_after ≡ out_before)

-- the same over the kind of store that is asked for: one on a disk; else one with a share; else a durable one, where serials
-- are asked for; else the log store
abbrev pub EndsAsked : {R W D F : Type 0} → (F → Option (List ℕ)) → Bool → Bool → Bool → ShellOptions → Option (List ℕ)
    → Option (List ℕ) → Option (List ℕ) → ℕ → R → R → W → W → D → D → Type 0
EndsAsked contents true shares serials = EndsTalk contents (disk_kind contents)
EndsAsked contents false true serials = EndsTalk contents (share_kind contents)
EndsAsked contents false false true = EndsTalk contents (durable_kind contents)
EndsAsked contents false false false = EndsTalk contents (log_kind contents)

-- the same of the lines that were asked for, which are the reader's where no file is named
pub record EndsShell {R W D F : Type 0} (contents : F → Option (List ℕ)) (options : ShellOptions)
    (known start out : Option (List ℕ)) (status : ℕ) (in_before in_after : R) (out_before out_after : W)
    (err_before err_after : D) : Type 0 where
  pub bytes : Option (List ℕ)
  pub own : options.script ≡ None → bytes ≡ known
  pub talk : EndsAsked contents (is_some options.disk) options.shares options.serials options bytes start out status
      in_before in_after out_before out_after err_before err_after

-- `lfs_shell` ends with this status by what it was asked for: options whose numbers are in their ranges, as a talk
-- ends, or else nothing is read
pub record IsShellEnd {R W D F : Type 0} (contents : F → Option (List ℕ)) (known start out : Option (List ℕ))
    (status : ℕ) (in_before in_after : R) (out_before out_after : W) (err_before err_after : D) : Type 0 where
  pub asked : Result ShellOptions Error
  pub ranges : IfOk asked (λ options. IsInRange 1000000 options.params)
  pub talk : IfOk asked (λ options. EndsShell contents options known start out status in_before in_after out_before
      out_after err_before err_after)
  pub not_run : IfErr asked (λ error. (in_after ≡ in_before)
      × EndsUnasked (kind_of error) status out_before out_after err_before err_after)
