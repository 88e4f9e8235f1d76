-- The log of each segment: its whole partial segments, one right behind the other, with serials that rise.
use Rattle.std.specs.Prelude.{◌≡◌, ℕ, zero, suc, ◌+◌, ◌*◌, ◌<◌, List, [], ◌∷◌, ◌++◌, ⊤}
use Rattle.std.specs.List.{Contains}
use Rattle.lfs_types.specs.declared.limits.TheConstants.{SEGMENT_BLOCKS}
use Rattle.lfs_segments.specs.Memory.{SegmentMemory, log_start}
use Rattle.lfs_recovery.specs.declared.places.PartialSegment.{PartialSegment}
use Rattle.lfs_recovery.specs.Whole.{IsWhole}

-- a whole partial segment stands at an address, ends in the segment, and has a serial above one
pub record IsLink (m : SegmentMemory) (segment address above : ℕ) (p : PartialSegment) : Type 0 where
  pub whole : IsWhole m p
  pub place : p.address ≡ address
  pub inside : p.address + p.count < (segment + 1) * SEGMENT_BLOCKS
  pub rises : above < p.serial

-- such partial segments, the first at an address and each other right behind the one before, each with a serial above
-- that of the one before
abbrev pub IsChain : SegmentMemory → ℕ → ℕ → ℕ → List PartialSegment → Type 0
IsChain m segment address above [] = ⊤
IsChain m segment address above (p ∷ ps) =
    IsLink m segment address above p × IsChain m segment (p.address + 1 + p.count) p.serial ps

-- a chain that no partial segment makes longer
pub record IsLongest (m : SegmentMemory) (segment address above : ℕ) (ps : List PartialSegment) : Type 0 where
  pub chain : IsChain m segment address above ps
  pub ended : (p : PartialSegment) → IsChain m segment address above (ps ++ p ∷ []) → ⊥

-- where the log of a segment begins
abbrev pub log_place : ℕ → ℕ
log_place segment = segment * SEGMENT_BLOCKS + log_start segment

-- the log of a segment is the longest chain from there, whatever the first serial is
abbrev pub IsLog : SegmentMemory → ℕ → List PartialSegment → Type 0
IsLog m segment ps = IsLongest m segment (log_place segment) 0 ps

-- the first of some lists, one after the other
abbrev pub joined : (ℕ → List PartialSegment) → ℕ → List PartialSegment
joined lists zero = []
joined lists (suc n) = joined lists n ++ lists n

-- these are the partial segments of the logs of all segments, segment by segment
pub record AreLogs (m : SegmentMemory) (list : List PartialSegment) : Type 0 where
  pub logs : ℕ → List PartialSegment
  pub each : (segment : ℕ) → segment < m.segments → IsLog m segment (logs segment)
  pub together : list ≡ joined logs m.segments

-- a partial segment stands in the log of a segment
pub record IsLogged (m : SegmentMemory) (p : PartialSegment) : Type 0 where
  pub segment : ℕ
  pub log : List PartialSegment
  pub below : segment < m.segments
  pub is : IsLog m segment log
  pub there : Contains log p
