-- Faults of a run on a volume that was laid out for it, and what holds of runs that are left: for `serve` and
-- `fresh_volume`. The number of sessions is judged first, then the format, then the volume is laid out and the run
-- made; so a fault of the run comes with numbers in their ranges (`serve_faults`), and one of the layout with a number
-- of sessions that may be (`layout_fault`). The volume began at the opening tree and nothing moved its beginning, so
-- its journal is legal from there (`legal_from_opening`), also of a run that is handed out because it isn't settled.
use Rattle.std.proofs.Common.{◌≡◌, ℕ, ◌<◌, ◌≤◌, Result, Ok, Err, IfErr, IfOk, OnOk, sym, subst}
use Rattle.lfs_types.specs.StoreStates.{StoreState}
use Rattle.lfs_types.specs.Tree.{opening_world}
use Rattle.lfs_types.specs.declared.fault.FormatFault.{FormatFault}
use Rattle.lfs_types.specs.declared.fault.FormatFault.TheVariants.{TooFew, TooMany}
use Rattle.lfs_types.specs.declared.fault.FormatFault.TheVariants as formats
use Rattle.lfs_server.specs.Fresh.{IsFormatFault, IsFreshLog}
use Rattle.lfs_server.specs.Serving.{IsFaultOf, IsInRange, IsServeFault, served_fault}
use Rattle.lfs_server.specs.Unserved.{OnLeft, fault_of}
use Rattle.lfs_server.specs.declared.serving.ServeFault.{ServeFault}
use Rattle.lfs_server.specs.declared.serving.ServeFault.TheVariants.{Sessions, Format, Memory, Unsettled, Thread}
use Rattle.lfs_server.specs.declared.unserved.Unserved.{Unserved}
use Rattle.lfs_server.specs.declared.unserved.Unserved.TheVariants as unserved
use Rattle.lfs_parts.specs.Opening.{IsOpening}
use Rattle.lfs_parts.specs.declared.parts.Parts.{Parts}
use Rattle.lfs_volume.specs.Journals.{Begins, IsJournal, Since}
use Rattle.lfs_volume.specs.Seen.{Seen}
use Rattle.lfs_logstore.specs.States.{opening_state, state_of}

serve_fault : (sessions segments inodes frames : ℕ) (fault : ServeFault) → IsInRange segments inodes frames
    → IsFaultOf sessions fault → IsServeFault sessions segments inodes frames fault
serve_fault sessions segments inodes frames Sessions ranges p = p
serve_fault sessions segments inodes frames (Format fault) ranges (run, some, few) = absurd run
serve_fault sessions segments inodes frames Memory ranges (run, some, few) = (some, few, ranges)
serve_fault sessions segments inodes frames (Unsettled session) ranges (run, some, few) = (some, few, ranges)
serve_fault sessions segments inodes frames Thread ranges (run, some, few) = (some, few, ranges)

-- the fault of a run over a volume is one of the run on a volume that is laid out
pub serve_faults : {T : Type 0} (sessions segments inodes frames : ℕ) (result : Result T (Unserved T))
    → IsInRange segments inodes frames → IfErr result (λ u. IsFaultOf sessions (fault_of u))
    → IfErr result (λ u. IsServeFault sessions segments inodes frames (fault_of u))
serve_faults sessions segments inodes frames (Ok left) ranges p = tt
serve_faults sessions segments inodes frames (Err u) ranges p =
    serve_fault sessions segments inodes frames (fault_of u) ranges p

-- a run is not made for a fault of laying out its volume
pub layout_fault : (sessions segments inodes frames : ℕ) (fault : FormatFault) → (0 < sessions) × (sessions ≤ 8)
    → IsFormatFault segments inodes frames fault
    → IsServeFault sessions segments inodes frames (served_fault fault)
layout_fault sessions segments inodes frames TooFew few p = (p, few.0, few.1)
layout_fault sessions segments inodes frames TooMany few p = (p, few.0, few.1)
layout_fault sessions segments inodes frames formats.Memory few p = (few.0, few.1, p)

-- what holds holds where a result is Ok
pub on_ok : {A E P : Type 0} (result : Result A E) → P → OnOk result P
on_ok (Ok a) p = p
on_ok (Err e) p = tt

-- what follows of each run that is left follows of this one
pub on_left : {T : Type 0} {P Q : T → Type 0} (result : Result T (Unserved T)) → ((left : T) → P left → Q left)
    → OnLeft result P → OnLeft result Q
on_left (Ok left) follows p = follows left p
on_left (Err (unserved.Fault fault)) follows p = tt
on_left (Err (unserved.Unsettled session left)) follows p = follows left p

-- a result that is Ok is no fault
pub no_fault : {A E : Type 0} (a : A) (e : E) → Ok a ≡ Err e → ⊥
no_fault {A} {E} a e eq = subst (λ (r : Result A E). IfOk r (λ _. ⊥)) (sym eq) tt

-- a log that was just laid out is fresh
pub fresh_log : (segments inodes frames : ℕ) (store : Parts) → state_of store ≡ opening_state segments inodes
    → IsOpening segments inodes frames store → IsFreshLog segments inodes frames store
fresh_log segments inodes frames store opening laid_out = record { opening = opening; laid_out = laid_out }

from_opening : {F : Type 0} (state : F → StoreState) (new old : Seen F)
    → Begins (state old.since) old.since_level opening_world → new.since ≡ old.since
    → new.since_level ≡ old.since_level
    → Since (state new.since) new.since_level (λ from. IsJournal from (state new.store) new.level new.journal new.limit)
    → IsJournal opening_world (state new.store) new.level new.journal new.limit
from_opening {F} state new old begins since since_level legal =
    legal opening_world
    (subst (λ l. Begins (state new.since) l opening_world) (sym since_level)
    (subst (λ (store : F). Begins (state store) old.since_level opening_world) (sym since) begins))

-- where a run began on a volume that shows the opening tree, its journal is legal from there
pub legal_from_opening : {F C : Type 0} (state : F → StoreState) (volume : C → Seen F) (result : Result C (Unserved C))
    (old : Seen F) → Begins (state old.since) old.since_level opening_world
    → OnLeft result (λ c. (volume c).since ≡ old.since)
    → OnLeft result (λ c. (volume c).since_level ≡ old.since_level)
    → OnLeft result (λ c. Since (state (volume c).since) (volume c).since_level
    (λ from. IsJournal from (state (volume c).store) (volume c).level (volume c).journal (volume c).limit))
    → OnLeft result (λ c. IsJournal opening_world (state (volume c).store) (volume c).level (volume c).journal
    (volume c).limit)
legal_from_opening state volume (Ok c) old begins since since_level legal =
    from_opening state (volume c) old begins since since_level legal
legal_from_opening state volume (Err (unserved.Fault fault)) old begins since since_level legal = tt
legal_from_opening state volume (Err (unserved.Unsettled session c)) old begins since since_level legal =
    from_opening state (volume c) old begins since since_level legal
