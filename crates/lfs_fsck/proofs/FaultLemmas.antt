-- On a log that has a fault no store stands: `not_stored`, for `check_log` and lfs_image. Of every store it holds that
-- each key's block lies in the volume, is named by the log and lies in no clean segment, that each number in use has a
-- record of its own, and that the tables have the sums that are counted; each fault but the want of memory is the
-- opposite of one of these. How many frames a cache would have makes no difference (`other_frames`). A fault of the files
-- is one of the log (`of_log`).
use Rattle.std.proofs.Common.{◌≡◌, ℕ, is_some, refl, sym, ap, ◌∙◌, arith}
use Rattle.std.proofs.lemmas.Bool.{false≢true}
use Rattle.lfs_types.specs.Ranges.{least_frames}
use Rattle.lfs_log.specs.Parts.{LogParts}
use Rattle.lfs_parts.specs.Store.{IsStore}
use Rattle.lfs_fsck.specs.declared.fault.LogFault.{LogFault}
use Rattle.lfs_fsck.specs.declared.fault.LogFault.TheVariants.{Unfinished, NotZeros, Reserved, NoRecord, OtherRecord}
use Rattle.lfs_fsck.specs.declared.fault.LogFault.TheVariants.{Outside, Misnamed, InClean, Unwritten, PastSize, Tail}
use Rattle.lfs_fsck.specs.declared.fault.LogFault.TheVariants.{Live, Crowded, Memory}
use Rattle.lfs_fsck.specs.Faults.{IsFileFaultOf, IsLogFaultOf}
use Rattle.lfs_fsck.specs.Stored.{flushed, stored}
use Rattle.lfs_fsck.proofs.StoreLemmas.{other_frames}

not_flushed : (l : LogParts) (fault : LogFault) → IsLogFaultOf l fault → (fault ≡ Memory → ⊥) → IsStore (flushed l) → ⊥
not_flushed l (Unfinished segment) h other s = h.1 s.ready.pending
not_flushed l (NotZeros address) h other s = h.2 (s.ready.zeros address h.0 h.1)
not_flushed l (Reserved number) h other s = false≢true (sym (s.whole.reserved number h.1 h.2) ∙ h.0)
not_flushed l (NoRecord number) h other s = false≢true (sym (ap is_some h.1) ∙ s.whole.recorded number h.0)
not_flushed l (OtherRecord number) h other s = let file = s.whole.files number h.fields h.is in
    h.other file.own_number file.own_version
not_flushed l (Outside number code) h other s = let key = s.log.keys number code h.0 in
    absurd (omega (arith, key.in_volume, h.1))
not_flushed l (Misnamed number code) h other s = h.1 (s.log.keys number code h.0).owned
not_flushed l (InClean number code) h other s = (s.log.keys number code h.0).not_clean h.1
not_flushed l (Unwritten number code) h other s = let below = (s.log.keys number code h.0).written h.1 in
    absurd (omega (arith, below, h.2))
not_flushed l (PastSize number code) h other s =
    h.somewhere ((s.whole.files number h.fields h.is).none_past h.block h.can h.past)
not_flushed l (Tail number) h other s = h.not_padded (s.whole.files number h.fields h.is).padded
not_flushed l (Live segment) h other s = h.1 (s.log.counted segment h.0)
not_flushed l (Crowded segment) h other s = let room = s.log.spared in absurd (omega (arith, room, h.1))
not_flushed l Memory h other s = other refl

pub not_stored : (l : LogParts) (fault : LogFault) → IsLogFaultOf l fault → (fault ≡ Memory → ⊥) → (frames : ℕ)
    → IsStore (stored frames l) → ⊥
not_stored l fault h other frames s = not_flushed l fault h other (other_frames l frames least_frames s)

pub of_log : (l : LogParts) (fault : LogFault) → IsFileFaultOf l fault → IsLogFaultOf l fault
of_log l (Unfinished segment) h = h
of_log l (NotZeros address) h = h
of_log l (Reserved number) h = h
of_log l (NoRecord number) h = h
of_log l (OtherRecord number) h = h
of_log l (Outside number code) h = h
of_log l (Misnamed number code) h = h
of_log l (InClean number code) h = h
of_log l (Unwritten number code) h = h
of_log l (PastSize number code) h = h
of_log l (Tail number) h = h
of_log l (Live segment) h = absurd h
of_log l (Crowded segment) h = absurd h
of_log l Memory h = tt
