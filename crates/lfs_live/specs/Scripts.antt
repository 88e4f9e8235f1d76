-- A talk over a fresh volume, and one whose lines are a script.
use Rattle.std.specs.Prelude.{◌≡◌, ℕ, ◌≤◌, Bool, true, false, List, [], ◌++◌, length, Option, Some, Ok}
use Rattle.std.specs.Io.KnownBytes.{Appends}
use Rattle.std.specs.List.{All}
use Rattle.lfs_types.specs.Tree.{opening_world}
use Rattle.lfs_types.specs.declared.level.Level.{Level}
use Rattle.lfs_checking.specs.Standing.{IsCheckTold}
use Rattle.lfs_logstore.specs.States.{state_of}
use Rattle.lfs_parts.specs.declared.parts.Parts.{Parts}
use Rattle.lfs_script.specs.PlanTypes.{Planned}
use Rattle.lfs_script.specs.Plans.{lines_of, plan_of}
use Rattle.lfs_model.specs.declared.journal.Entry.{Entry}
use Rattle.lfs_volume.specs.Journals.{Begins}
use Rattle.lfs_volume.specs.Seen.{Seen}
use Rattle.lfs_audit.specs.Output.{IsOutput}
use Rattle.lfs_audit.specs.Scripts.{log_cleaner}
use Rattle.lfs_audit.specs.declared.fault.RunFault.{RunFault}
use Rattle.lfs_audit.specs.declared.fault.RunFault.TheVariants.{Format}
use Rattle.lfs_live.specs.Faults.{IsTalkFault}
use Rattle.lfs_live.specs.Held.{Course}
use Rattle.lfs_sinks.specs.Numbered.{numbered_text}
use Rattle.lfs_live.specs.Talkers.{Talker, talker_of}
use Rattle.lfs_live.specs.Talking.{HasHeardSoFar, IsTalk}
use Rattle.lfs_live.specs.declared.framing.Framing.{Framing}
use Rattle.lfs_live.specs.declared.framing.Framing.TheVariants.{Plain}
use Rattle.lfs_view.specs.MapText.{map_text}
use Rattle.lfs_view.specs.SegmentText.{segment_text}
use Rattle.lfs_view.specs.SpaceText.{space_text}
use Rattle.lfs_server.specs.Fresh.{IsFormatFault, IsFreshLog}

-- the log store, as it is talked to, where this is it that it is kept
abbrev pub log_talker : (Parts → Level → Type 0) → Talker Parts
log_talker kept = talker_of log_cleaner map_text segment_text space_text IsCheckTold kept

-- no file has it
abbrev pub never_kept : Parts → Level → Type 0
never_kept store level = ⊥

-- a fresh volume over a log of so many segments, inode numbers and frames, with room for so many entries, whose journal
-- begins in the opening world
pub record IsFresh (segments inodes frames limit : ℕ) (volume : Seen Parts) : Type 0 where
  pub log : IsFreshLog segments inodes frames volume.store
  pub empty : volume.journal ≡ []
  pub begins : Begins (state_of volume.since) volume.since_level opening_world
  pub room : volume.limit ≡ limit

-- a sink's bytes, where they are known, grew by the lines of entries, numbered from this number on
abbrev pub IsJournalOf : ℕ → Option (List ℕ) → Option (List ℕ) → List Entry → Type 0
IsJournalOf number first last entries = Appends first last (numbered_text number entries)

-- how a talk goes: whether a sink takes the entries of its journal, whether passes are made unasked, and how its
-- answers are framed
pub record Manner : Type 0 where
  pub is_open : Bool
  pub cleans : Bool
  pub framing : Framing

-- a talk that begins so with a volume
abbrev pub begins_with : {F : Type 0} → Seen F → Manner → Course F
begins_with volume manner =
    record { volume = volume; handed = []; answers = []; is_open = manner.is_open; cleans = manner.cleans }

-- a talk over a volume that begins so
pub record IsTalkOver (kept : Parts → Level → Type 0) (begins : Seen Parts → Type 0) (manner : Manner)
    (known left start out : Option (List ℕ)) : Type 0 where
  pub old : Seen Parts
  pub new : Course Parts
  pub begun : begins old
  pub talk : IsTalk (log_talker kept) manner.framing (begins_with old manner) new known left start out

-- The same, and where the sink took entries to the end, its bytes became these by the lines of all entries, numbered
-- from this number on.
pub record IsKeptTalkOver (are : Parts → Level → Type 0) (begins : Seen Parts → Type 0) (manner : Manner)
    (is_open : Bool) (number : ℕ) (first last known left start out : Option (List ℕ)) : Type 0 where
  pub talk : IsTalkOver are begins manner known left start out
  pub kept : is_open ≡ true → IsJournalOf number first last (talk.new.handed ++ talk.new.volume.journal)

-- the same up to a read that failed
pub record HasHeardOver (kept : Parts → Level → Type 0) (begins : Seen Parts → Type 0) (manner : Manner)
    (known left start out : Option (List ℕ)) : Type 0 where
  pub old : Seen Parts
  pub new : Course Parts
  pub begun : begins old
  pub so_far : HasHeardSoFar (log_talker kept) manner.framing (begins_with old manner) new known left start out

-- the same of a fresh volume
abbrev pub IsLogTalk : (Parts → Level → Type 0) → ℕ → ℕ → ℕ → ℕ → Manner → Option (List ℕ) → Option (List ℕ) → Option (List ℕ) → Option (List ℕ)
    → Type 0
IsLogTalk kept segments inodes frames limit = IsTalkOver kept (IsFresh segments inodes frames limit)

abbrev pub IsKeptLogTalk : (Parts → Level → Type 0) → ℕ → ℕ → ℕ → ℕ → Manner → Bool → ℕ → Option (List ℕ) → Option (List ℕ) → Option (List ℕ)
    → Option (List ℕ) → Option (List ℕ) → Option (List ℕ) → Type 0
IsKeptLogTalk kept segments inodes frames limit = IsKeptTalkOver kept (IsFresh segments inodes frames limit)

abbrev pub HasHeardOfLog : (Parts → Level → Type 0) → ℕ → ℕ → ℕ → ℕ → Manner → Option (List ℕ) → Option (List ℕ) → Option (List ℕ)
    → Option (List ℕ) → Type 0
HasHeardOfLog kept segments inodes frames limit = HasHeardOver kept (IsFresh segments inodes frames limit)

-- a talk over a fresh volume may end in this fault
abbrev pub IsLogFault : ℕ → ℕ → ℕ → RunFault → Type 0
IsLogFault segments inodes frames (Format fault) = IsFormatFault segments inodes frames fault
IsLogFault segments inodes frames fault = IsTalkFault fault

-- What a talk without a sink and a file writes, without passes unasked and frames, whose lines are a script without a fault, in which no
-- line has more than 65,536 bytes, a run of that script writes, from wherever the journal began.
abbrev pub WritesAsScript : Type 0
WritesAsScript =
    (old new : Course Parts) (script : List ℕ) (left start out : Option (List ℕ)) (plan : Planned)
    → old.volume.journal ≡ [] → old.handed ≡ [] → old.answers ≡ [] → old.is_open ≡ false → old.cleans ≡ false
    → plan_of script ≡ Ok plan → All (λ line. length line ≤ 65536) (lines_of script)
    → IsTalk (log_talker never_kept) Plain old new (Some script) left start out
    → let v = old.volume in
    (text : List ℕ) × IsOutput log_cleaner (Begins (state_of v.since) v.since_level) script v.limit v.store text
    × Appends start out text
