-- What a crash in the middle of a flush leaves of a store's log.
use Rattle.std.specs.Prelude.{◌≡◌, ℕ, ◌+◌, ◌-◌, ◌/◌, ◌<◌, ◌≤◌, ◌⊎◌, List, [], Some, length, replicate}
use Rattle.std.specs.Prelude.{slice_index_or, take}
use Rattle.lfs_types.specs.declared.limits.TheConstants.{SEGMENT_BLOCKS}
use Rattle.lfs_types.specs.Blocks.{zero_block}
use Rattle.lfs_types.specs.Tree.{World}
use Rattle.lfs_segments.specs.Memory.{SegmentMemory, block_at, log_start, next_address, opened, room_of, written}
use Rattle.lfs_segments.specs.Serial.{Told, told_in}
use Rattle.lfs_ifile.specs.declared.segment.SegState.TheVariants.{Clean}
use Rattle.lfs_log.specs.Parts.{state_of}
use Rattle.lfs_recovery.specs.declared.places.PartialSegment.{PartialSegment}
use Rattle.lfs_recovery.specs.Logs.{log_place}
use Rattle.lfs_recovery.specs.Whole.{IsWhole}
use Rattle.lfs_parts.specs.declared.parts.Parts.{Parts}
use Rattle.lfs_parts.specs.Files.{content_of}
use Rattle.lfs_parts.specs.Store.{IsFlushed, IsStore}
use Rattle.lfs_staging.specs.Changing.{StaysInLog}
use Rattle.lfs_model.specs.World.{IsTree}
use Rattle.lfs_calls.specs.Content.{Shows}
use Rattle.lfs_durable.specs.Contents.{IsMadeOf}
use Rattle.lfs_durable.specs.Names.{IsDurable}
use Rattle.lfs_durable.specs.Spared.{Spares}

-- no whole partial segment begins at an address: what was written there is torn, or nothing was
abbrev pub IsNoneWhole : SegmentMemory → ℕ → Type 0
IsNoneWhole n address = (s : PartialSegment) → IsWhole n s → s.address ≡ address → ⊥

-- a segment has all of its blocks as they were
pub record IsUntouched (m n : SegmentMemory) (segment : ℕ) : Type 0 where
  pub each : (a : ℕ) → a / SEGMENT_BLOCKS ≡ segment → block_at n a ≡ block_at m a

-- the active segment has its blocks up to the end of its log, behind which anything stands but a whole partial segment
pub record IsTorn (m n : SegmentMemory) (segment : ℕ) : Type 0 where
  pub active : segment ≡ m.active
  pub before : (a : ℕ) → a / SEGMENT_BLOCKS ≡ segment → a < next_address m → block_at n a ≡ block_at m a
  pub torn : IsNoneWhole n (next_address m)

-- a clean segment is being filled with zeros: some blocks are, in whatever order
pub record IsWiped (p : Parts) (n : SegmentMemory) (segment : ℕ) : Type 0 where
  pub clean : state_of p.log.tables segment ≡ Clean
  pub each : (a : ℕ) → a / SEGMENT_BLOCKS ≡ segment
      → (block_at n a ≡ block_at p.log.memory a) ⊎ (block_at n a ≡ zero_block)

-- or it has anything but a whole partial segment where its log begins
pub record IsBarren (p : Parts) (n : SegmentMemory) (segment : ℕ) : Type 0 where
  pub clean : state_of p.log.tables segment ≡ Clean
  pub torn : IsNoneWhole n (log_place segment)

abbrev pub IsLeft : Parts → SegmentMemory → ℕ → Type 0
IsLeft p n segment = IsUntouched p.log.memory n segment
    ⊎ (IsTorn p.log.memory n segment ⊎ (IsWiped p n segment ⊎ IsBarren p n segment))

-- A crash left these blocks of a store, between any two block writes of a flush: the label, and each segment so.
pub record IsCrashOf (p : Parts) (n : SegmentMemory) : Type 0 where
  pub segments : n.segments ≡ p.log.memory.segments
  pub label : block_at n 0 ≡ block_at p.log.memory 0
  pub each : (segment : ℕ) → segment < n.segments → IsLeft p n segment

-- Such blocks spare the store.
abbrev pub CrashSpares : Type 0
CrashSpares = (p : Parts) (n : SegmentMemory) → IsDurable p → IsCrashOf p n → Spares p n

-- So a store on what is found in them contains all that the store contained, which showed a tree.
abbrev pub FindsAfterCrash : Type 0
FindsAfterCrash = (p q : Parts) (w : World) (n : SegmentMemory) → IsDurable p → Shows (content_of p) w → IsTree w.rows
    → IsCrashOf p n → IsMadeOf n q.log → IsStore q → IsFlushed q → content_of q ≡ content_of p

-- ---- a flush, block by block

-- The blocks of a partial segment that a memory has room for: a summary that tells this, and the blocks of its entries.
pub record IsPartialSegment (m : SegmentMemory) (blocks : List (List ℕ)) : Type 0 where
  pub told : Told
  pub summary : told_in (slice_index_or blocks 0 []) ≡ Some told
  pub count : length blocks ≡ 1 + length told.entries
  pub fits : length blocks ≤ room_of m

-- Of a partial segment that is written behind the log's end some blocks have landed, in order, but not all of them.
pub record IsInFlush (m n : SegmentMemory) : Type 0 where
  pub wanted : List (List ℕ)
  pub whole : IsPartialSegment m wanted
  pub landed : ℕ
  pub not_all : landed < length wanted
  pub segments : n.segments ≡ m.segments
  pub blocks : n.blocks ≡ written m.blocks (next_address m) (take landed wanted)

-- so, where a clean segment was opened before
pub record IsInOpenedFlush (p : Parts) (n : SegmentMemory) : Type 0 where
  pub segment : ℕ
  pub inside : segment < p.log.memory.segments
  pub clean : state_of p.log.tables segment ≡ Clean
  pub flush : IsInFlush (opened p.log.memory segment) n

-- of a clean segment that is opened some blocks are zeros, in order
pub record IsInOpening (p : Parts) (n : SegmentMemory) : Type 0 where
  pub segment : ℕ
  pub inside : segment < p.log.memory.segments
  pub clean : state_of p.log.tables segment ≡ Clean
  pub landed : ℕ
  pub few : landed ≤ SEGMENT_BLOCKS - log_start segment
  pub segments : n.segments ≡ p.log.memory.segments
  pub blocks : n.blocks ≡ written p.log.memory.blocks (log_place segment) (replicate landed zero_block)

-- the blocks of a store between any two block writes of a flush
abbrev pub IsMidway : Parts → SegmentMemory → Type 0
IsMidway p n = IsInFlush p.log.memory n ⊎ (IsInOpening p n ⊎ IsInOpenedFlush p n)

-- They are what a crash leaves.
abbrev pub FlushCrashes : Type 0
FlushCrashes = (p : Parts) (n : SegmentMemory) → IsDurable p → IsMidway p n → IsCrashOf p n

-- So they are of the store as it was before the changes that this flush writes.
abbrev pub StagedCrashes : Type 0
StagedCrashes = (p staged : Parts) (n : SegmentMemory) → IsDurable p → StaysInLog p staged → IsMidway staged n → IsCrashOf p n
