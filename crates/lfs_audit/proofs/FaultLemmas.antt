-- Which fault of a run comes with which cause: `late_faults` for `run_over`, `late_script_faults` for `run_script`,
-- `split_cause` and `late_threads_fault` for `run_threads` and `run_sessions`. A fault's cause is what held when that
-- step was reached: one of reading is told by the bytes (ReadingLemmas), one of the format stands behind a script
-- with a plan (`layout_fault`), and behind these steps only memory and a write are left (`MayHaveWritten`), with the
-- plan and the ranges known by then. So it is taken apart by faults, and each that can't come any more is absurd; of a
-- reader that doesn't tell its bytes nothing is claimed, which `if_some` carries along.
use Rattle.std.proofs.Common.{◌≡◌, ℕ, ◌<◌, ◌≤◌, List, length, Option, None, Some, Result, Ok, Err, IfErr, IfSome}
use Rattle.std.proofs.Common.{subst}
use Rattle.lfs_types.specs.Caller.{Caller}
use Rattle.lfs_types.specs.declared.fault.FormatFault.{FormatFault}
use Rattle.lfs_types.specs.declared.request.Request.{Request}
use Rattle.lfs_server.specs.Fresh.{IsFormatFault}
use Rattle.lfs_server.specs.Serving.{IsInRange}
use Rattle.lfs_script.specs.PlanTypes.{Planned}
use Rattle.lfs_audit.specs.Faults.{HasPlan, IsFaultOf, IsRead, IsReadingFault, MayHaveWritten}
use Rattle.lfs_audit.specs.Scripts.{IsScriptFault}
use Rattle.lfs_audit.specs.Threads.{HasSessions, IsSplit, IsSplittingFault, IsThreadsFault}
use Rattle.lfs_audit.specs.Threads.{MayHaveWrittenThreads}
use Rattle.lfs_audit.specs.declared.fault.RunFault.{RunFault}
use Rattle.lfs_audit.specs.declared.fault.RunFault.TheVariants.{Read, TooLong, Script, Format, Memory, Write}
use Rattle.lfs_audit.specs.declared.fault.ThreadsFault.{ThreadsFault}
use Rattle.lfs_audit.specs.declared.fault.ThreadsFault.TheVariants as threads

-- what holds of a value that is known
pub if_some : {A : Type 0} (known : Option A) (p : A → Type 0) (q : A → Type 0) → IfSome known p → ((a : A) → p a → q a)
    → IfSome known q
if_some None p q holds next = tt
if_some (Some a) p q holds next = next a holds

-- what follows from a fault
pub if_err : {A E : Type 0} (result : Result A E) (p : E → Type 0) (q : E → Type 0) → IfErr result p
    → ((e : E) → p e → q e) → IfErr result q
if_err (Ok a) p q holds next = tt
if_err (Err e) p q holds next = next e holds

-- a script that was read has a plan
pub has_plan : (known : Option (List ℕ)) (plan : Planned) → IfSome known (λ script. IsRead script plan) → HasPlan known
has_plan known plan is =
    if_some known (λ script. IsRead script plan) (λ script. (p : Planned) × IsRead script p) is
    (λ script read. (plan, read))

-- ---- a run over a volume that is there

pub reading_fault : (known : Option (List ℕ)) (fault : RunFault) → IsReadingFault known fault → IsFaultOf known fault
reading_fault known Read p = tt
reading_fault known TooLong p = p
reading_fault known (Script fault) p = p
reading_fault known (Format fault) p = absurd p
reading_fault known Memory p = tt
reading_fault known Write p = absurd p

late_fault : (known : Option (List ℕ)) (fault : RunFault) → HasPlan known → MayHaveWritten fault → IsFaultOf known fault
late_fault known Read plan p = absurd p
late_fault known TooLong plan p = absurd p
late_fault known (Script fault) plan p = absurd p
late_fault known (Format fault) plan p = absurd p
late_fault known Memory plan p = tt
late_fault known Write plan p = plan

-- a fault once something may have been written is one of the run
pub late_faults : {A : Type 0} (known : Option (List ℕ)) (result : Result A RunFault) → HasPlan known
    → IfErr result MayHaveWritten → IfErr result (IsFaultOf known)
late_faults known result plan p = if_err result MayHaveWritten (IsFaultOf known) p
    (λ fault may. late_fault known fault plan may)

-- ---- a run on a fresh volume

pub reading_script_fault : (known : Option (List ℕ)) (segments inodes frames : ℕ) (fault : RunFault)
    → IsReadingFault known fault → IsScriptFault known segments inodes frames fault
reading_script_fault known segments inodes frames Read p = tt
reading_script_fault known segments inodes frames TooLong p = p
reading_script_fault known segments inodes frames (Script fault) p = p
reading_script_fault known segments inodes frames (Format fault) p = absurd p
reading_script_fault known segments inodes frames Memory p = tt
reading_script_fault known segments inodes frames Write p = absurd p

-- the fault of laying out its log, once the script was parsed
pub layout_fault : (known : Option (List ℕ)) (segments inodes frames : ℕ) (fault : FormatFault) → HasPlan known
    → IsFormatFault segments inodes frames fault → IsScriptFault known segments inodes frames (Format fault)
layout_fault known segments inodes frames fault plan p = (plan, p)

late_script_fault : (known : Option (List ℕ)) (segments inodes frames : ℕ) (fault : RunFault) → HasPlan known
    → IsInRange segments inodes frames → MayHaveWritten fault → IsScriptFault known segments inodes frames fault
late_script_fault known segments inodes frames Read plan ranges p = absurd p
late_script_fault known segments inodes frames TooLong plan ranges p = absurd p
late_script_fault known segments inodes frames (Script fault) plan ranges p = absurd p
late_script_fault known segments inodes frames (Format fault) plan ranges p = absurd p
late_script_fault known segments inodes frames Memory plan ranges p = tt
late_script_fault known segments inodes frames Write plan ranges p = (plan, ranges)

-- a fault once something may have been written is one of the run
pub late_script_faults : {A : Type 0} (known : Option (List ℕ)) (segments inodes frames : ℕ)
    (result : Result A RunFault) → HasPlan known → IsInRange segments inodes frames
    → IfErr result MayHaveWritten → IfErr result (IsScriptFault known segments inodes frames)
late_script_faults known segments inodes frames result plan ranges p =
    if_err result MayHaveWritten (IsScriptFault known segments inodes frames) p
    (λ fault may. late_script_fault known segments inodes frames fault plan ranges may)

-- ---- a run on threads

-- the fault of a script that may not be split
pub split_cause : (known : Option (List ℕ)) (segments inodes frames : ℕ) (fault : ThreadsFault)
    → IsSplittingFault known fault → IsThreadsFault known segments inodes frames fault
split_cause known segments inodes frames (threads.Run Read) cause = cause
split_cause known segments inodes frames (threads.Run TooLong) cause = cause
split_cause known segments inodes frames (threads.Run (Script fault)) cause = cause
split_cause known segments inodes frames (threads.Run (Format fault)) cause = cause
split_cause known segments inodes frames (threads.Run Memory) cause = cause
split_cause known segments inodes frames (threads.Run Write) cause = absurd cause
split_cause known segments inodes frames threads.CleanerLine cause = cause
split_cause known segments inodes frames (threads.Serve fault) cause = absurd cause

-- a script that was split has so many sessions
pub has_sessions : (script : List ℕ) (setup : List (Caller × Request)) (scripts : List (List (Caller × Request)))
    → IsSplit script setup scripts → HasSessions script (length scripts)
has_sessions script setup scripts is = record { plan = is.plan; read = is.read; users = is.users; count = is.count }

pub late_threads_fault : (known : Option (List ℕ)) (segments inodes frames sessions : ℕ) (setup : List (Caller × Request))
    (scripts : List (List (Caller × Request))) (fault : ThreadsFault)
    → IfSome known (λ script. IsSplit script setup scripts) → sessions ≡ length scripts → (0 < sessions)
    × (sessions ≤ 8) → IsInRange segments inodes frames
    → MayHaveWrittenThreads fault → IsThreadsFault known segments inodes frames fault
late_threads_fault known segments inodes frames sessions setup scripts (threads.Run Read) split count served ranges p =
    absurd p
late_threads_fault known segments inodes frames sessions setup scripts
    (threads.Run TooLong) split count served ranges p = absurd p
late_threads_fault known segments inodes frames sessions setup scripts
    (threads.Run (Script fault)) split count served ranges p = absurd p
late_threads_fault known segments inodes frames sessions setup scripts
    (threads.Run (Format fault)) split count served ranges p = absurd p
late_threads_fault known segments inodes frames sessions setup scripts
    (threads.Run Memory) split count served ranges p = tt
late_threads_fault known segments inodes frames sessions setup scripts (threads.Run Write) split count served ranges p = (
  if_some known (λ script. IsSplit script setup scripts) (λ script. (n : ℕ) × HasSessions script n × (0 < n)
      × (n ≤ 8)) split
      (λ script is.
      let few : (0 < length scripts) × (length scripts ≤ 8) = subst (λ (n : ℕ). (0 < n) × (n ≤ 8)) count served in
      (length scripts, has_sessions script setup scripts is, few.0, few.1)),
  ranges,
)
late_threads_fault known segments inodes frames sessions setup scripts threads.CleanerLine split count served ranges p =
    absurd p
late_threads_fault known segments inodes frames sessions setup scripts
    (threads.Serve fault) split count served ranges p = absurd p
