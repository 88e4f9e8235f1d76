-- What is found contains what the store contained, and is found wherever a crash left a store.
use Rattle.std.specs.Prelude.{◌≡◌, ◌≢◌, ◌/◌, ◌<◌, ◌≤◌}
use Rattle.lfs_types.specs.declared.limits.TheConstants.{SEGMENT_BLOCKS}
use Rattle.lfs_segments.specs.Memory.{SegmentMemory}
use Rattle.lfs_recovery.specs.declared.places.PartialSegment.{PartialSegment}
use Rattle.lfs_recovery.specs.Logs.{IsLogged}
use Rattle.lfs_parts.specs.declared.parts.Parts.{Parts}
use Rattle.lfs_parts.specs.Files.{content_of}
use Rattle.lfs_logstore.specs.States.{state_of}
use Rattle.lfs_calls.specs.Volumes.{HasWorld}
use Rattle.lfs_durable.specs.Crashes.{IsCrashOf}
use Rattle.lfs_durable.specs.Kept.{CanBeFound}
use Rattle.lfs_durable.specs.Names.{IsDurable}
use Rattle.lfs_durable.specs.Spared.{Spares}

-- A store found in a memory contains what each store contained that the memory spares, as the store's own blocks do and
-- what a crash leaves of them, where all of it lay in its log and it showed a tree.
abbrev pub FindsAllOf : SegmentMemory → Parts → Type 0
FindsAllOf m found = (p : Parts) → IsDurable p → HasWorld (state_of p) → Spares p m → content_of found ≡ content_of p

-- No store that showed a tree, and of which all lay in its log, is one of which a crash, or no crash, left this memory.
abbrev pub IsLeftOfNone : SegmentMemory → Type 0
IsLeftOfNone m = (p : Parts) → IsDurable p → HasWorld (state_of p) → IsCrashOf p m → ⊥

-- Segments are written one after the other: the partial segments of the one that has the newest have serials above those
-- of all others.
abbrev pub EndsInOrder : SegmentMemory → Type 0
EndsInOrder m = (last p q : PartialSegment) → IsLogged m last
    → ((s : PartialSegment) → IsLogged m s → s.serial ≤ last.serial) → IsLogged m p → IsLogged m q
    → p.address / SEGMENT_BLOCKS ≢ last.address / SEGMENT_BLOCKS
    → q.address / SEGMENT_BLOCKS ≡ last.address / SEGMENT_BLOCKS → p.serial < q.serial

-- A store found in what a crash, or none, left of a store that showed a tree, and of which all lay in its log, can be
-- found again, where segments were written one after the other.
abbrev pub IsFindableAgain : SegmentMemory → Parts → Type 0
IsFindableAgain m found = (p : Parts) → IsDurable p → HasWorld (state_of p) → IsCrashOf p m → EndsInOrder m
    → CanBeFound found
