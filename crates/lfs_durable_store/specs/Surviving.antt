-- What a crash leaves of a durable store.
use Rattle.std.specs.Prelude.{◌≡◌, ◌⊎◌, ℕ, List, Result}
use Rattle.lfs_types.specs.declared.cleaner.BlockInfo.{BlockInfo}
use Rattle.lfs_types.specs.declared.store.Change.{Change}
use Rattle.lfs_types.specs.declared.store.Reserve.{Reserve}
use Rattle.lfs_types.specs.declared.store.StoreRefusal.{StoreRefusal}
use Rattle.lfs_segments.specs.Memory.{SegmentMemory}
use Rattle.lfs_staging.specs.Changing.{StaysInLog}
use Rattle.lfs_parts.specs.declared.parts.Parts.{Parts}
use Rattle.lfs_parts.specs.Files.{content_of}
use Rattle.lfs_parts.specs.Store.{IsFlushed, IsStore}
use Rattle.lfs_segwrite.specs.Finishing.{MarksAgain}
use Rattle.lfs_durable.specs.Contents.{IsMadeOf}
use Rattle.lfs_durable.specs.Crashes.{IsInFlush, IsMidway}
use Rattle.lfs_durable.specs.Kept.{CanBeFound}
use Rattle.lfs_durable.specs.Runs.{IsCounted, ShowsTree}
use Rattle.lfs_durable_store.specs.Answering.{ComesTo, SettlesBehind}
use Rattle.lfs_durable_store.specs.Keeping.{Durably, IsKept}

-- the blocks of a store at rest, or between any two block writes of the flush of what waits, for which no segment is opened
abbrev pub IsCutShort : Durably → SegmentMemory → Type 0
IsCutShort s n = (n ≡ s.store.log.memory) ⊎ IsInFlush s.store.log.memory n

-- the blocks of a log store at rest, or between any two block writes of a flush, for which a segment may be opened
abbrev pub IsCutAt : Parts → SegmentMemory → Type 0
IsCutAt p n = (n ≡ p.log.memory) ⊎ IsMidway p n

-- The blocks before a later flush of the same call, or between any two block writes of it. It writes what was staged over a
-- log store in which nothing waited: one that could be found, had serials left, and contained what the store contained
-- before the call.
pub record IsInLaterFlush (s : Durably) (n : SegmentMemory) : Type 0 where
  pub before : Parts
  pub store : IsStore before
  pub flushed : IsFlushed before
  pub found : CanBeFound before
  pub counted : IsCounted before
  pub content : content_of before ≡ content_of s.store
  pub staged : Parts
  pub stays : StaysInLog before staged
  pub cut : IsCutAt staged n

-- a store that was made of what is found in these blocks
pub record IsFoundIn (n : SegmentMemory) (found : Parts) : Type 0 where
  pub made : IsMadeOf n found.log
  pub store : IsStore found
  pub flushed : IsFlushed found

-- What is found behind a crash, at rest or in the flush of what waits, contains what the base contains: where that showed a
-- tree, and the last serial hasn't come.
abbrev pub Survives : Durably → Type 0
Survives s = (n : SegmentMemory) (found : Parts) → IsCounted s.store → ShowsTree s.base → IsCutShort s n
    → IsFoundIn n found → content_of found ≡ content_of s.base

-- What is found behind a crash before or in a later flush of a call contains what the store contained before the call.
abbrev pub SurvivesLater : Type 0
SurvivesLater = (s : Durably) (n : SegmentMemory) (found : Parts) → ShowsTree s.store → IsInLaterFlush s n
    → IsFoundIn n found → content_of found ≡ content_of s.store

-- The flush behind changes that didn't fit the active segment is such a later flush.
abbrev pub BehindIsLater : Type 0
BehindIsLater = (old new : Durably) (changes : List Change) (by : Reserve) (result : Result (Unit {0}) StoreRefusal)
    (c : ComesTo old changes by result new) (n : SegmentMemory) → IsKept old → SettlesBehind c.before c.staged new
    → IsCounted c.staged → IsCutAt c.staged n → IsInLaterFlush old n

-- So is the flush of blocks that are written again, from the store on in which nothing waits any more.
abbrev pub MarkIsLater : Type 0
MarkIsLater = (old : Durably) (new : Parts) (marks : List BlockInfo) (count : ℕ) (m : MarksAgain marks count old.store new)
    (n : SegmentMemory) → IsKept old → IsCounted m.between → IsCutAt m.between n → IsInLaterFlush old n
