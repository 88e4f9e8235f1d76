-- Runs on threads that are not done: why, and what they left, for `run_threads` and `run_sessions`. A session is named
-- only beside the run that it differs in. A script that could not be split and a write that failed have none, so they
-- name no session (`unsplit_named`, `unwritten_named`); of serving only an unsettled run has one, and serving said that
-- its session is the lowest that differs (`unserved_named`). The sessions that were served are those into which the
-- script was split, so the same is so of the script (`script_named`), and so is the fault (`unserved_fault`).
use Rattle.std.proofs.Common.{◌≡◌, ℕ, List, Option, IfSome, Err, length, vec_len, subst, arith}
use Rattle.std.specs.Global.{Vec}
use Rattle.lfs_types.specs.Caller.{Caller}
use Rattle.lfs_types.specs.Tree.{opening_world}
use Rattle.lfs_types.specs.declared.answer.Answer.{Answer}
use Rattle.lfs_types.specs.declared.request.Request.{Request}
use Rattle.lfs_parts.specs.declared.parts.Parts.{Parts}
use Rattle.lfs_logstore.specs.States.{shape_of, state_of}
use Rattle.lfs_settle.specs.Interleaving.{IsLowestToDiffer, run_of}
use Rattle.lfs_volume.specs.Journals.{IsJournal}
use Rattle.lfs_volume.specs.Seen.{Seen}
use Rattle.lfs_server.specs.Serving.{IsServeFault}
use Rattle.lfs_server.specs.Unserved.{NamesUnsettled, OnLeft, fault_of}
use Rattle.lfs_server.specs.declared.serving.ServeFault.TheVariants as serve
use Rattle.lfs_server.specs.declared.unserved.Unserved.{Unserved}
use Rattle.lfs_server.specs.declared.unserved.Unserved.TheVariants as unserved
use Rattle.lfs_audit.specs.Threads.{HasSessions, IsSplit, IsSplittingFault, IsThreadsFault, MayHaveWrittenThreads}
use Rattle.lfs_audit.specs.Undone.{IsUnsettledRun, IsUnsettledScript, NamesUndone, undone_of, why}
use Rattle.lfs_audit.specs.declared.fault.ThreadsFault.{ThreadsFault}
use Rattle.lfs_audit.specs.declared.fault.ThreadsFault.TheVariants as threads
use Rattle.lfs_audit.specs.declared.undone.Undone.{Undone}
use Rattle.lfs_audit.specs.declared.undone.Undone.TheVariants.{Fault, Unsettled}
use Rattle.lfs_audit.proofs.FaultLemmas.{has_sessions, if_some}

-- a script that could not be split names no session
pub unsplit_named : {T : Type 0} (P : ℕ → T → Type 0) (known : Option (List ℕ)) (fault : ThreadsFault)
    → IsSplittingFault known fault → NamesUndone P (Fault fault)
unsplit_named P known (threads.Run fault) p = tt
unsplit_named P known threads.CleanerLine p = tt
unsplit_named P known (threads.Serve fault) p = absurd p

-- nor does a fault after which something may have been written
pub unwritten_named : {T : Type 0} (P : ℕ → T → Type 0) (fault : ThreadsFault) → MayHaveWrittenThreads fault
    → NamesUndone P (Fault fault)
unwritten_named P (threads.Run fault) p = tt
unwritten_named P threads.CleanerLine p = absurd p
unwritten_named P (threads.Serve fault) p = absurd p

-- sessions that were not served name one only with what they left
pub unserved_named : {T : Type 0} (volume : T → Seen Parts) (answers : T → List Answer) (transcripts : T → Vec (Vec Answer))
    (setup : List (Caller × Request)) (scripts : Vec (List (Caller × Request))) (segments inodes limit : ℕ) (u : Unserved T)
    → NamesUnsettled (λ session closed. IsLowestToDiffer (run_of (volume closed).journal (volume closed).limit setup
    (answers closed) scripts.items (transcripts closed).items) session) u
    → OnLeft (Err u) (λ closed. vec_len (transcripts closed) ≡ vec_len scripts)
    → OnLeft (Err u) (λ closed. (volume closed).limit ≡ limit)
    → OnLeft (Err u) (λ closed. (state_of (volume closed).store).shape ≡ shape_of inodes segments)
    → OnLeft (Err u) (λ closed. IsJournal opening_world (state_of (volume closed).store) (volume closed).level
    (volume closed).journal (volume closed).limit)
    → NamesUndone (λ session closed. IsUnsettledRun setup scripts.items segments inodes limit (volume closed)
    (answers closed) (transcripts closed).items session) (undone_of u)
unserved_named volume answers transcripts setup scripts segments inodes limit
    (unserved.Fault serve.Sessions) named count limited shape legal = tt
unserved_named volume answers transcripts setup scripts segments inodes limit
    (unserved.Fault (serve.Format fault)) named count limited shape legal = tt
unserved_named volume answers transcripts setup scripts segments inodes limit
    (unserved.Fault serve.Memory) named count limited shape legal = tt
unserved_named volume answers transcripts setup scripts segments inodes limit
    (unserved.Fault (serve.Unsettled session)) named count limited shape legal = absurd named
unserved_named volume answers transcripts setup scripts segments inodes limit
    (unserved.Fault serve.Thread) named count limited shape legal = tt
unserved_named volume answers transcripts setup scripts segments inodes limit
    (unserved.Unsettled session left) named count limited shape legal = record {
      limited = limited;
      shape = shape;
      legal = legal;
      count = omega (arith, count, (transcripts left).ok.0, scripts.ok.0);
      differs = named;
    }

-- what holds where a session is named may be weaker
named_weaker : {T : Type 0} (P Q : ℕ → T → Type 0) → ((session : ℕ) (left : T) → P session left → Q session left)
    → (u : Undone T) → NamesUndone P u → NamesUndone Q u
named_weaker P Q weaker (Fault (threads.Run fault)) p = tt
named_weaker P Q weaker (Fault threads.CleanerLine) p = tt
named_weaker P Q weaker (Fault (threads.Serve serve.Sessions)) p = tt
named_weaker P Q weaker (Fault (threads.Serve (serve.Format fault))) p = tt
named_weaker P Q weaker (Fault (threads.Serve serve.Memory)) p = tt
named_weaker P Q weaker (Fault (threads.Serve (serve.Unsettled session))) p = absurd p
named_weaker P Q weaker (Fault (threads.Serve serve.Thread)) p = tt
named_weaker P Q weaker (Unsettled session left) p = weaker session left p

-- the same where the calls are those of a script
pub script_named : {T : Type 0} (volume : T → Seen Parts) (answers : T → List Answer)
    (transcripts : T → Vec (Vec Answer)) (known : Option (List ℕ)) (setup : List (Caller × Request))
    (scripts : List (List (Caller × Request))) (segments inodes limit : ℕ) (u : Undone T)
    → IfSome known (λ script. IsSplit script setup scripts)
    → NamesUndone (λ session closed. IsUnsettledRun setup scripts segments inodes limit (volume closed)
    (answers closed) (transcripts closed).items session) u
    → NamesUndone (λ session closed. IsUnsettledScript known segments inodes limit (volume closed)
    (answers closed) (transcripts closed).items session) u
script_named volume answers transcripts known setup scripts segments inodes limit u split named =
    named_weaker
    (λ session closed. IsUnsettledRun setup scripts segments inodes limit (volume closed)
    (answers closed) (transcripts closed).items session)
    (λ session closed. IsUnsettledScript known segments inodes limit (volume closed)
    (answers closed) (transcripts closed).items session)
    (λ session left run. if_some known (λ script. IsSplit script setup scripts)
    (λ script. (first : List (Caller × Request)) × (others : List (List (Caller × Request)))
    × IsSplit script first others
    × IsUnsettledRun first others segments inodes limit (volume left) (answers left) (transcripts left).items session)
    split (λ script is. (setup, scripts, is, run)))
    u named

-- the fault of a script whose sessions were not served, or are not settled
pub unserved_fault : {T : Type 0} (known : Option (List ℕ)) (segments inodes frames sessions : ℕ)
    (setup : List (Caller × Request)) (scripts : List (List (Caller × Request))) (u : Unserved T)
    → IfSome known (λ script. IsSplit script setup scripts) → sessions ≡ length scripts
    → IsServeFault sessions segments inodes frames (fault_of u)
    → IsThreadsFault known segments inodes frames (why (undone_of u))
unserved_fault known segments inodes frames sessions setup scripts (unserved.Fault fault) split count told =
    if_some known (λ script. IsSplit script setup scripts)
    (λ script. (n : ℕ) × HasSessions script n × IsServeFault n segments inodes frames fault) split
    (λ script is. (
      length scripts,
      has_sessions script setup scripts is,
      subst (λ (n : ℕ). IsServeFault n segments inodes frames fault) count told,
    ))
unserved_fault known segments inodes frames sessions setup scripts (unserved.Unsettled session left) split count told =
    if_some known (λ script. IsSplit script setup scripts)
    (λ script. (n : ℕ) × HasSessions script n × IsServeFault n segments inodes frames (serve.Unsettled session)) split
    (λ script is. (
      length scripts,
      has_sessions script setup scripts is,
      subst (λ (n : ℕ). IsServeFault n segments inodes frames (serve.Unsettled session)) count told,
    ))
