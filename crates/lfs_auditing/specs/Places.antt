-- At which place of a journal a tree stands.
use Rattle.std.specs.Prelude.{◌≡◌, ◌⊎◌, ◌<◌, ◌≤◌, ℕ, List, [], Option, None, Some, length, take}
use Rattle.lfs_types.specs.StoreStates.{StoreState}
use Rattle.lfs_types.specs.Tree.{World, opening_world}
use Rattle.lfs_model.specs.World.{Rows}
use Rattle.lfs_model.specs.Steps.{world_after}
use Rattle.lfs_model.specs.declared.journal.Entry.{Entry}
use Rattle.lfs_calls.specs.Volumes.{IsVolume}
use Rattle.lfs_trace.specs.Checking.{numbers_of}
use Rattle.lfs_trace.specs.declared.errors.Denials.TheVariants.{Whole}
use Rattle.lfs_auditing.specs.Audits.{HasReadOn, status_of}
use Rattle.lfs_auditing.specs.declared.audit.Audit.{Audit}
use Rattle.lfs_auditing.specs.declared.audit.Stop.{Stop}
use Rattle.lfs_auditing.specs.declared.audit.Stop.TheVariants.{End}
use Rattle.lfs_auditing.specs.declared.placing.Place.{Place}
use Rattle.lfs_auditing.specs.declared.placing.Place.TheVariants.{Behind, Nowhere, Stopped}
use Rattle.lfs_auditing.specs.declared.placing.Placed.{Placed}

-- the first so many entries lead from this world to a tree of these rows
abbrev pub LeadsTo : ℕ → World → List Entry → Rows → ℕ → Type 0
LeadsTo numbers from entries rows count =
    (world_after numbers (take count entries) from).rows ≡ rows

-- the greatest number up to this one of which something holds, or none where it holds of none
abbrev pub IsGreatest : (ℕ → Type 0) → ℕ → Option ℕ → Type 0
IsGreatest Holds most None = (count : ℕ) → count ≤ most → ¬ (Holds count)
IsGreatest Holds most (Some count) = (count ≤ most) × Holds count
    × ((more : ℕ) → count < more → more ≤ most → ¬ (Holds more))

-- the greatest number of these entries, from this world on, that lead to the tree that a store shows
abbrev pub IsPlaceOf : StoreState → World → List Entry → Option ℕ → Type 0
IsPlaceOf s from entries behind = (v : World) → IsVolume s v
    → IsGreatest (LeadsTo s.shape.numbers from entries v.rows) (length entries) behind

-- what is told of a journal of these entries that was read up to there, and of the tree that a store
-- shows: at its end the greatest number of them that leads from the tree of a fresh volume to this
-- one, or that none does, and how many there are; else that it isn't legal, or not all lines
abbrev pub IsPlaceAt : StoreState → List Entry → Stop → Place → Type 0
IsPlaceAt s entries stop (Behind count of) = (stop ≡ End) × (of ≡ length entries)
    × IsPlaceOf s opening_world entries (Some count)
IsPlaceAt s entries stop (Nowhere of) = (stop ≡ End) × (of ≡ length entries)
    × IsPlaceOf s opening_world entries None
IsPlaceAt s entries stop (Stopped text) = status_of stop ≡ 1

-- A journal of these bytes, where they are known, was read as that of a volume with a store's
-- numbers, from the tree of a fresh one on, and this is told of its entries.
pub record IsPlaced (known : Option (List ℕ)) (s : StoreState) (place : Place) : Type 0 where
  pub audit : Audit
  pub stop : Stop
  pub left : Option (List ℕ)
  pub read : HasReadOn known left opening_world [] audit stop
  pub numbers_are : numbers_of audit.checker ≡ s.shape.numbers
  pub segments_are : audit.checker.segments ≡ s.shape.segments
  pub denials_are : audit.denials ≡ Whole
  pub is : IsPlaceAt s read.more stop place

-- ---- for the functions within

-- a search looked whether this tree, behind so many entries, is that one
abbrev pub HasLooked : World → World → ℕ → Option ℕ → Option ℕ → Type 0
HasLooked w v count old new = ((w.rows ≡ v.rows) × (new ≡ Some count))
    ⊎ (¬ (w.rows ≡ v.rows) × (new ≡ old))

-- a journal was read, from this world on, and a search found its place
pub record HasPlaced (known left : Option (List ℕ)) (from : World) (s : StoreState) (a : Audit)
    (placed : Placed) : Type 0 where
  pub read : HasReadOn known left from [] a placed.stop
  pub counted : placed.of ≡ length read.more
  pub place : (v : World) → IsVolume s v
      → IsGreatest (LeadsTo (numbers_of a.checker) from read.more v.rows) (length read.more)
      placed.behind

-- what is told of it
abbrev pub IsToldAs : Stop → Option ℕ → ℕ → Place → Type 0
IsToldAs stop behind of (Behind count all) = (stop ≡ End) × (behind ≡ Some count) × (all ≡ of)
IsToldAs stop behind of (Nowhere all) = (stop ≡ End) × (behind ≡ None) × (all ≡ of)
IsToldAs stop behind of (Stopped text) = status_of stop ≡ 1
