-- What is found in a memory (`found_of`, `lost_of`, `no_memory`), and what of that holds of the blocks of a disk
-- (`found_at`, `way_still`, `way_mixed`, `whichever`, `untouched`).
use Rattle.std.proofs.Common.{◌≡◌, ℕ, inl, inr, Bool, false, List, refl, sym, ap, subst, ◌∙◌}
use Rattle.std.proofs.lemmas.Bool.{false≢true}
use Rattle.lfs_segments.specs.Memory.{SegmentMemory}
use Rattle.lfs_parts.specs.declared.parts.Parts.{Parts}
use Rattle.lfs_parts.specs.Store.{IsFlushed, IsStore}
use Rattle.lfs_logstore.specs.States.{state_of}
use Rattle.lfs_calls.specs.Volumes.{HasWorld}
use Rattle.lfs_fsck.specs.Stored.{IsStored, stored}
use Rattle.lfs_durable.specs.Kept.{CanBeFound}
use Rattle.lfs_disk.specs.Disk.{Only}
use Rattle.lfs_rescue.specs.declared.fault.RecoverFault.TheVariants.{Memory}
use Rattle.lfs_rescue.specs.Contents.{FindsAllOf, IsFindableAgain}
use Rattle.lfs_rescue.specs.Recovering.{IsRecovered, TellsTheSame}
use Rattle.lfs_disk_start.specs.declared.fault.StartFault.{StartFault}
use Rattle.lfs_disk_start.specs.declared.fault.StartFault.TheVariants.{Disk, File, Format, Length, Lost, Recovery}
use Rattle.lfs_disk_start.specs.Finding.{IsFindFaultOf, IsFoundOf, IsLost, IsNotFound, IsOnTheWayBack, LeavesDisk, memory_of}
use Rattle.lfs_disk_start.specs.Mixing.{IsMixtureOf}

abbrev Blocks : Type 0
Blocks = List (List ℕ)

nothing_waits : (frames : ℕ) (p : Parts) → p ≡ stored frames p.log → IsFlushed p
nothing_waits frames p is = subst IsFlushed (sym is) (record { no_record = refl; no_frame = refl })

pub found_of : (m : SegmentMemory) (frames : ℕ) (p : Parts) → IsRecovered m p.log → TellsTheSame m p.log.memory
    → FindsAllOf m p → IsStored p.log → p ≡ stored frames p.log → HasWorld (state_of p) → CanBeFound p
    → IsFoundOf m frames p
found_of m frames p recovered tells content stands empty world findable = record {
  recovered = recovered;
  tells = tells;
  content = content;
  stands = stands;
  flushed = empty;
  world = world;
  findable = findable;
  store = subst IsStore (sym empty) (stands frames);
  still = nothing_waits frames p empty;
}

pub lost_of : (m : SegmentMemory) (p : Parts) → IsRecovered m p.log → IsFindableAgain m p → (CanBeFound p → ⊥) → IsLost m
lost_of m p recovered again lost = record {
  found = p;
  recovered = recovered;
  lost = lost;
  none = λ q durable world crash order. lost (again q durable world crash order);
}

pub no_memory : (m : SegmentMemory) → IsNotFound m Memory
no_memory m = record { cause = tt; none = λ other. absurd (other refl) }

-- ---- on a disk
pub found_at : (m : SegmentMemory) (blocks : Blocks) (frames : ℕ) (p : Parts) → m ≡ memory_of blocks → IsFoundOf m frames p
    → IsFoundOf (memory_of blocks) frames p
found_at m blocks frames p is found = subst (λ (n : SegmentMemory). IsFoundOf n frames p) is found

pub way_still : (blocks seen : Blocks) (frames : ℕ) (may_leave : Blocks → Type 0) → seen ≡ blocks → Only seen may_leave
    → (c : Blocks) → may_leave c → IsOnTheWayBack blocks frames c
way_still blocks seen frames may_leave is only c left = inl (only c left ∙ is)

pub way_mixed : (m : SegmentMemory) (blocks : Blocks) (frames : ℕ) (p : Parts) → m ≡ memory_of blocks → IsFoundOf m frames p
    → (c : Blocks) → IsMixtureOf m.blocks p.log.memory.blocks c → IsOnTheWayBack blocks frames c
way_mixed m blocks frames p is found c mix = inr (
  p,
  found_at m blocks frames p is found,
  subst (λ (b : Blocks). IsMixtureOf b p.log.memory.blocks c) (ap (λ (n : SegmentMemory). n.blocks) is) mix,
)

pub whichever : (m : SegmentMemory) (blocks : Blocks) (has_failed : Bool) (fault : StartFault) → m ≡ memory_of blocks
    → IsFindFaultOf m false fault → IsFindFaultOf (memory_of blocks) has_failed fault
whichever m blocks has_failed fault is of =
    of_any (memory_of blocks) has_failed fault (subst (λ (n : SegmentMemory). IsFindFaultOf n false fault) is of)
  where
    of_any : (n : SegmentMemory) (failed : Bool) (f : StartFault) → IsFindFaultOf n false f → IsFindFaultOf n failed f
    of_any n failed (File f) of = of
    of_any n failed (Format f) of = of
    of_any n failed Length of = of
    of_any n failed (Recovery f) of = of
    of_any n failed Lost of = of
    of_any n failed (Disk f) of = absurd (false≢true of)

pub untouched : {D : Type 0} (m : SegmentMemory) (disk : D) (fault : StartFault) → IsFindFaultOf m false fault
    → LeavesDisk disk disk fault
untouched m disk (File f) of = refl
untouched m disk (Format f) of = refl
untouched m disk Length of = refl
untouched m disk (Recovery f) of = refl
untouched m disk Lost of = refl
untouched m disk (Disk f) of = tt
