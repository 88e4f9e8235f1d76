-- The last of some partial segments (`last_more`), and that of all of a memory (`has_end`); and what a fault of the volume
-- that is built says of the memory (`build_fault`, `build_none`).
use Rattle.std.proofs.Common.{◌≡◌, ◌<◌, ◌≤◌, true, false, nat_lt, List, []}
use Rattle.std.proofs.Common.{◌∷◌, ◌++◌, Option, Some, None}
use Rattle.std.proofs.Common.{refl, ap, subst, ⊎_elim, arith}
use Rattle.std.specs.List.{Contains}
use Rattle.std.proofs.lemmas.Bool.{cases_lt, le-ltb, lt-ltb}
use Rattle.std.proofs.lemmas.List.Elements.{Contains-append_left}
use Rattle.std.proofs.lemmas.List.Elements.{Contains-push, Contains-push_cases}
use Rattle.lfs_segments.specs.Memory.{SegmentMemory}
use Rattle.lfs_recovery.specs.declared.places.PartialSegment.{PartialSegment}
use Rattle.lfs_recovery.specs.Logs.{AreLogs, IsLogged}
use Rattle.lfs_durable.proofs.ListLemmas.{listed_logged, logged_listed}
use Rattle.lfs_rescue.specs.declared.fault.RecoverFault.{RecoverFault}
use Rattle.lfs_rescue.specs.declared.fault.RecoverFault.TheVariants.{Empty, Volume, Number, LastSerial, Length, Memory}
use Rattle.lfs_rescue.specs.Building.{IsBuildFault}
use Rattle.lfs_rescue.specs.Contents.{IsLeftOfNone}
use Rattle.lfs_rescue.specs.Recovering.{HasEnd, IsLastOf, IsRecoverFaultOf, later}

-- ---- the last one

pub last_none : IsLastOf [] None
last_none = λ p there. let below = there.1 in absurd (omega arith)

pub last_more : (ps : List PartialSegment) (last : Option PartialSegment) (p : PartialSegment) → IsLastOf ps last
    → IsLastOf (ps ++ p ∷ []) (Some (later last p))
last_more ps None p is = (
  Contains-push ps p,
  λ q there. ⊎_elim
      (λ (before : Contains ps q). absurd (is q before))
      (λ (here : p ≡ q). let same = ap (λ (r : PartialSegment). r.serial) here in omega arith)
      (Contains-push_cases ps p q there),
)
last_more ps (Some last) p is = ⊎_elim
    (λ (lt : p.serial < last.serial). let less : nat_lt p.serial last.serial ≡ true = lt-ltb _ _ lt in
    rw less (
      Contains-append_left ps (p ∷ []) last is.0,
      λ q there. ⊎_elim
          (λ (before : Contains ps q). is.1 q before)
          (λ (here : p ≡ q). let same = ap (λ (r : PartialSegment). r.serial) here in omega arith)
          (Contains-push_cases ps p q there),
    ))
    (λ (ge : last.serial ≤ p.serial). let no : nat_lt p.serial last.serial ≡ false = le-ltb _ _ ge in
    rw no (
      Contains-push ps p,
      λ q there. ⊎_elim
          (λ (before : Contains ps q). let most = is.1 q before in omega arith)
          (λ (here : p ≡ q). let same = ap (λ (r : PartialSegment). r.serial) here in omega arith)
          (Contains-push_cases ps p q there),
    ))
    (cases_lt p.serial last.serial)

-- the last of all partial segments is the newest
pub has_end : (m : SegmentMemory) (ps : List PartialSegment) (last : PartialSegment) → AreLogs m ps
    → IsLastOf ps (Some last) → last.serial < 4294967295 → HasEnd m
has_end m ps last logs is counted = record {
  last = last;
  logged = listed_logged m ps last logs is.0;
  latest = λ p logged. is.1 p (logged_listed m ps p logs logged);
  counted = counted;
}

pub end_of : (m : SegmentMemory) (ps qs : List PartialSegment) (last : PartialSegment) → AreLogs m ps → qs ≡ ps
    → IsLastOf qs (Some last) → last.serial < 4294967295 → HasEnd m
end_of m ps qs last logs same is counted =
    has_end m ps last logs (subst (λ (xs : List PartialSegment). IsLastOf xs (Some last)) same is) counted

pub last_logged : (m : SegmentMemory) (ps qs : List PartialSegment) (last : PartialSegment) → AreLogs m ps → qs ≡ ps
    → IsLastOf qs (Some last) → IsLogged m last
last_logged m ps qs last logs same is =
    listed_logged m ps last logs (subst (λ (xs : List PartialSegment). IsLastOf xs (Some last)) same is).0

pub last_latest : (m : SegmentMemory) (ps qs : List PartialSegment) (last p : PartialSegment) → AreLogs m ps → qs ≡ ps
    → IsLastOf qs (Some last) → IsLogged m p → p.serial ≤ last.serial
last_latest m ps qs last p logs same is logged =
    (subst (λ (xs : List PartialSegment). IsLastOf xs (Some last)) same is).1 p (logged_listed m ps p logs logged)

pub none_logged : (m : SegmentMemory) (ps qs : List PartialSegment) (o : Option PartialSegment) → AreLogs m ps → qs ≡ ps
    → o ≡ None → IsLastOf qs o → (p : PartialSegment) → IsLogged m p → ⊥
none_logged m ps qs o logs same none is p logged =
    subst (λ (xs : List PartialSegment). IsLastOf xs None) same (subst (IsLastOf qs) none is) p
    (logged_listed m ps p logs logged)

-- ---- faults of what is built

pub build_fault : (m : SegmentMemory) (fault : RecoverFault) → HasEnd m → IsBuildFault m fault → IsRecoverFaultOf m fault
build_fault m Empty end h = absurd h
build_fault m (Volume fault) end h = end
build_fault m (Number number) end h = end
build_fault m LastSerial end h = absurd h
build_fault m Length end h = absurd h
build_fault m Memory end h = tt

pub build_none : (m : SegmentMemory) (fault : RecoverFault) → IsBuildFault m fault → (fault ≡ Memory → ⊥)
    → IsLeftOfNone m
build_none m Empty h other = absurd h
build_none m (Volume fault) h other = h
build_none m (Number number) h other = h
build_none m LastSerial h other = absurd h
build_none m Length h other = absurd h
build_none m Memory h other = absurd (other refl)
