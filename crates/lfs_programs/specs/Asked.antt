-- What a run that was asked for prints, and how it may end.
use Rattle.std.specs.Prelude.{◌≡◌, ◌≢◌, ◌≤◌, ◌⊎◌, ℕ, Bool, false, true, List, None, Option, Result, IfErr, IfOk, IfSome}
use Rattle.std.specs.Prelude.{IsSome}
use Rattle.std.specs.Io.KnownBytes.{Appends, Keeps}
use Rattle.clap.specs.Values.{kind_of}
use Rattle.clap.specs.declared.error.Error.{Error}
use Rattle.lfs_types.specs.declared.store.Params.{Params}
use Rattle.lfs_programs.specs.Ranges.{IsInRange}
use Rattle.lfs_programs.specs.declared.fault.ServerFault.{ServerFault}
use Rattle.lfs_programs.specs.declared.fault.ServerFault.TheVariants.{Run, Open, Journal}
use Rattle.lfs_programs.specs.declared.options.Options.{Options}
use Rattle.lfs_model.specs.declared.journal.Entry.{Entry}
use Rattle.lfs_sinks.specs.Numbered.{numbered_text}
use Rattle.lfs_audit.specs.FiledRuns.{IsFiledOutput, IsFiledThreads}
use Rattle.lfs_audit.specs.Scripts.{IsLogOutput, IsScriptFault}
use Rattle.lfs_audit.specs.Threads.{IsThreadsFault, IsThreadsOutput, MayHaveWrittenThreads}
use Rattle.lfs_audit.specs.declared.fault.ThreadsFault.{ThreadsFault}
use Rattle.lfs_audit.specs.declared.fault.ThreadsFault.TheVariants as threads
use Rattle.lfs_command.specs.Ends.{EndsUnasked}

-- a text is that of a run of a script as was asked: on the caller's thread, or each session on a thread of its own
pub record IsAskedText (options : Options) (script text : List ℕ) : Type 0 where
  pub alone : options.threads ≡ false → IsLogOutput script options.params.segments options.params.inodes
      options.params.frames options.params.journal text
  pub together : options.threads ≡ true → IsThreadsOutput script options.params.segments options.params.inodes
      options.params.journal text

-- a run of a script on the caller's thread may end in this fault
abbrev pub IsAloneFault : Option (List ℕ) → Params → ThreadsFault → Type 0
IsAloneFault known params (threads.Run fault) = IsScriptFault known params.segments params.inodes params.frames fault
IsAloneFault known params threads.CleanerLine = ⊥
IsAloneFault known params (threads.Serve fault) = ⊥

-- a run as it was asked for, of a script of these bytes, where they are known, may end in this fault
pub record IsAskedFault (options : Options) (known : Option (List ℕ)) (fault : ThreadsFault) : Type 0 where
  pub alone : options.threads ≡ false → IsAloneFault known options.params fault
  pub together : options.threads ≡ true → IsThreadsFault known options.params.segments options.params.inodes
      options.params.frames fault

-- a writer got the text of a run of a script of these bytes, where they are known
abbrev pub HasGotText : Options → Option (List ℕ) → Option (List ℕ) → Option (List ℕ) → Type 0
HasGotText options known start out = IfSome known (λ script. (text : List ℕ) × IsAskedText options script text
    × Appends start out text)

-- a text is that of a run of a script as was asked, whose entries these are
pub record IsFiledText (options : Options) (script : List ℕ) (is_whole : Bool) (entries : List Entry)
    (text : List ℕ) : Type 0 where
  pub alone : options.threads ≡ false → IsFiledOutput script options.params.segments options.params.inodes
      options.params.frames is_whole entries text
  pub together : options.threads ≡ true → IsFiledThreads script options.params.segments options.params.inodes
      options.params.journal entries text

-- a writer got the text of a run of a script of these bytes, where they are known, and a file, where it took all, the
-- lines of all entries of the run, numbered from 1 on, in order
pub record HasGotFiled {F : Type 0} (contents : F → Option (List ℕ)) (options : Options) (is_whole : Bool)
    (known start out : Option (List ℕ)) : Type 0 where
  pub text : List ℕ
  pub entries : List Entry
  pub before : F
  pub after : F
  pub run : IfSome known (λ script. IsFiledText options script is_whole entries text)
  pub printed : Appends start out text
  pub filed : is_whole ≡ true → Appends (contents before) (contents after) (numbered_text 1 entries)

-- a run was done: without a file of its entries, or with one, where that is asked for, which took all
pub record HasRun {F : Type 0} (contents : F → Option (List ℕ)) (options : Options)
    (known start out : Option (List ℕ)) : Type 0 where
  pub unfiled : options.journal_out ≡ None → HasGotText options known start out
  pub filed : IsSome options.journal_out → HasGotFiled contents options true known start out

-- A run ended in this fault: it has its cause, and up to some faults nothing was written; or the file of its entries
-- was not made, and nothing was run; or all was run, and the file took no more from some line on.
abbrev pub IsBroken : {F W : Type 0} → (F → Option (List ℕ)) → Options → Option (List ℕ) → Option (List ℕ)
    → Option (List ℕ) → W → W → ServerFault → Type 0
IsBroken contents options known start out out_before out_after (Run fault) =
    IsAskedFault options known fault × ((MayHaveWrittenThreads fault → ⊥) → Keeps start out)
IsBroken contents options known start out out_before out_after (Open fault) =
    IsSome options.journal_out × (out_after ≡ out_before)
IsBroken contents options known start out out_before out_after Journal =
    IsSome options.journal_out × HasGotFiled contents options false known start out

-- the status of a run that ended in a fault
abbrev pub status_of : ServerFault → ℕ
status_of (Run fault) = 1
status_of (Open fault) = 2
status_of Journal = 1

-- A program that was asked for a run ends with this status: 0 where it is done and its text is written, of which
-- nothing is told; else that of the fault in which it ended.
pub record EndsRun {F W D : Type 0} (contents : F → Option (List ℕ)) (options : Options)
    (known start out : Option (List ℕ)) (status : ℕ) (out_before out_after : W) (err_before err_after : D) : Type 0 where
  pub either : status ≤ 2
  pub done : status ≡ 0 → HasRun contents options known start out × (err_after ≡ err_before)
  pub failed : status ≢ 0 → (fault : ServerFault) × (status ≡ status_of fault)
      × IsBroken contents options known start out out_before out_after fault

-- a script's file was not opened, and nothing is read or printed
abbrev pub IsUnopened : {R W : Type 0} → Options → ℕ → R → R → W → W → Type 0
IsUnopened options status in_before in_after out_before out_after =
    (status ≡ 2) × IsSome options.script × (in_after ≡ in_before) × (out_after ≡ out_before)

-- The same of the script that was asked for, which is the reader's where no file is named; and with status 2 where its
-- file was not opened.
pub record EndsServer {F R W D : Type 0} (contents : F → Option (List ℕ)) (options : Options)
    (known start out : Option (List ℕ)) (status : ℕ) (in_before in_after : R) (out_before out_after : W)
    (err_before err_after : D) : Type 0 where
  pub bytes : Option (List ℕ)
  pub own : options.script ≡ None → bytes ≡ known
  pub ends : EndsRun contents options bytes start out status out_before out_after err_before err_after
      ⊎ IsUnopened options status in_before in_after out_before out_after

-- `lfsd` ends with this status by what it was asked for: options whose numbers are in their ranges, as a run of that
-- kind ends, or else nothing is read
pub record IsServerEnd {F R W D : Type 0} (contents : F → Option (List ℕ)) (known start out : Option (List ℕ))
    (status : ℕ) (in_before in_after : R) (out_before out_after : W) (err_before err_after : D) : Type 0 where
  pub asked : Result Options Error
  pub ranges : IfOk asked (λ options. IsInRange 100000 options.params)
  pub window : IfOk asked (λ options. IsSome options.journal_out → 128 ≤ options.params.journal)
  pub run : IfOk asked (λ options. EndsServer contents options known start out status in_before in_after out_before
      out_after err_before err_after)
  pub not_run : IfErr asked (λ error. (in_after ≡ in_before)
      × EndsUnasked (kind_of error) status out_before out_after err_before err_after)
