-- A run of a script on threads that is not done: why, and what it left where a session differs.
use Rattle.std.specs.Prelude.{◌≡◌, ℕ, List, length, Option, IfSome}
use Rattle.std.specs.Global.{Vec}
use Rattle.lfs_types.specs.Caller.{Caller}
use Rattle.lfs_types.specs.Tree.{opening_world}
use Rattle.lfs_types.specs.declared.answer.Answer.{Answer}
use Rattle.lfs_types.specs.declared.request.Request.{Request}
use Rattle.lfs_parts.specs.declared.parts.Parts.{Parts}
use Rattle.lfs_logstore.specs.States.{shape_of, state_of}
use Rattle.lfs_settle.specs.Interleaving.{IsLowestToDiffer, run_of}
use Rattle.lfs_volume.specs.Journals.{IsJournal}
use Rattle.lfs_volume.specs.Seen.{Seen}
use Rattle.lfs_server.specs.declared.serving.ServeFault.TheVariants as serve
use Rattle.lfs_server.specs.declared.unserved.Unserved.{Unserved}
use Rattle.lfs_server.specs.declared.unserved.Unserved.TheVariants as unserved
use Rattle.lfs_audit.specs.Threads.{IsSplit}
use Rattle.lfs_audit.specs.declared.fault.ThreadsFault.{ThreadsFault}
use Rattle.lfs_audit.specs.declared.fault.ThreadsFault.TheVariants as threads
use Rattle.lfs_audit.specs.declared.undone.Undone.{Undone}
use Rattle.lfs_audit.specs.declared.undone.Undone.TheVariants.{Fault, Unsettled}

-- why, without what it left
abbrev pub why : {T : Type 0} → Undone T → ThreadsFault
why (Fault fault) = fault
why (Unsettled session left) = threads.Serve (serve.Unsettled session)

-- a run whose sessions were not served, or are not settled, is not done
abbrev pub undone_of : {T : Type 0} → Unserved T → Undone T
undone_of (unserved.Fault fault) = Fault (threads.Serve fault)
undone_of (unserved.Unsettled session left) = Unsettled session left

-- a session is named only with what the run left, and then this holds of the two
abbrev pub NamesUndone : {T : Type 0} → (ℕ → T → Type 0) → Undone T → Type 0
NamesUndone P (Fault (threads.Run fault)) = Unit {0}
NamesUndone P (Fault threads.CleanerLine) = Unit {0}
NamesUndone P (Fault (threads.Serve serve.Sessions)) = Unit {0}
NamesUndone P (Fault (threads.Serve (serve.Format fault))) = Unit {0}
NamesUndone P (Fault (threads.Serve serve.Memory)) = Unit {0}
NamesUndone P (Fault (threads.Serve (serve.Unsettled session))) = ⊥
NamesUndone P (Fault (threads.Serve serve.Thread)) = Unit {0}
NamesUndone P (Unsettled session left) = P session left

-- A run of this setup and of these scripts, on a volume of so many segments and inode numbers whose journal may have so
-- many entries, left this volume and gave these answers, and is not settled: the journal is legal from the opening tree,
-- and this is the lowest session that differs in it.
pub record IsUnsettledRun (setup : List (Caller × Request)) (scripts : List (List (Caller × Request)))
    (segments inodes limit : ℕ) (volume : Seen Parts) (answers : List Answer) (transcripts : List (Vec Answer))
    (session : ℕ) : Type 0 where
  pub limited : volume.limit ≡ limit
  pub shape : (state_of volume.store).shape ≡ shape_of inodes segments
  pub legal : IsJournal opening_world (state_of volume.store) volume.level volume.journal volume.limit
  pub count : length transcripts ≡ length scripts
  pub differs : IsLowestToDiffer (run_of volume.journal volume.limit setup answers scripts transcripts) session

-- the same of a script of these bytes, where they are known
abbrev pub IsUnsettledScript : Option (List ℕ) → ℕ → ℕ → ℕ → Seen Parts → List Answer → List (Vec Answer) → ℕ → Type 0
IsUnsettledScript known segments inodes limit volume answers transcripts session =
    IfSome known (λ script. (setup : List (Caller × Request)) × (scripts : List (List (Caller × Request)))
    × IsSplit script setup scripts
    × IsUnsettledRun setup scripts segments inodes limit volume answers transcripts session)
