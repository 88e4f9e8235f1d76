-- When blocks may be written again with few clean segments: behind them a dirty segment can still be finished.
use Rattle.std.specs.Prelude.{◌≡◌, ◌⊎◌, ℕ, ◌+◌, ◌/◌, ◌<◌, ◌≤◌, List, All, max}
use Rattle.lfs_types.specs.declared.cleaner.BlockInfo.{BlockInfo}
use Rattle.lfs_types.specs.declared.limits.TheConstants.{SEGMENT_BLOCKS}
use Rattle.lfs_segments.specs.Memory.{block_at, room_of}
use Rattle.lfs_bmap.specs.Moves.{DirtyIn, Moves, StaysDirty}
use Rattle.lfs_parts.specs.declared.parts.Parts.{Parts}
use Rattle.lfs_parts.specs.Keys.{log_state}
use Rattle.lfs_segwrite.specs.Applying.{WritesWaiting}
use Rattle.lfs_segwrite.specs.Gaining.{pass_blocks, widest}
use Rattle.lfs_segwrite.specs.Giving.{HaveRoom}
use Rattle.lfs_segwrite.specs.Marking.{AreNamed, MarksFlushed, blocks_to_mark}

-- the blocks of all these infos lie in a segment
abbrev pub LieIn : ℕ → List BlockInfo → Type 0
LieIn segment infos = All (λ (info : BlockInfo). info.addr / SEGMENT_BLOCKS ≡ segment) infos

-- A dirty segment can be finished where the blocks of some infos, so many, are written again first: these and what it
-- takes to clean it have room; or what it takes alone, where they lie in it and so are part of that.
pub record IsFinishable (infos : List BlockInfo) (blocks : ℕ) (p : Parts)
    (segment : ℕ) : Type 0 where
  pub inside : segment < p.log.memory.segments
  pub dirty : DirtyIn (log_state p) segment
  pub room : (LieIn segment infos × HaveRoom (pass_blocks p segment)
      (max (widest p segment) blocks) p) ⊎ HaveRoom (pass_blocks p segment + blocks)
      (max (widest p segment) blocks) p

-- no segment can be
abbrev pub NoneIsFinishable : List BlockInfo → ℕ → Parts → Type 0
NoneIsFinishable infos blocks p = (segment : ℕ) → IsFinishable infos blocks p segment → ⊥

-- some segment can be
abbrev pub SomeIsFinishable : List BlockInfo → ℕ → Parts → Type 0
SomeIsFinishable infos blocks p = (segment : ℕ) × IsFinishable infos blocks p segment

-- behind the blocks that some infos name a segment can be finished
pub record HasRoomToMark (marks : List BlockInfo) (p : Parts) : Type 0 where
  pub named : List BlockInfo
  pub are_named : AreNamed (log_state p) marks named
  pub leaves : SomeIsFinishable named (blocks_to_mark named) p

-- The blocks of some infos, so many, can't be written for the cleaner: no segment is clean and they don't fit the
-- active one, or no segment could be finished behind them.
abbrev pub LacksRoomToMark : List BlockInfo → ℕ → Parts → Type 0
LacksRoomToMark infos blocks p =
    ((p.log.clean ≡ 0) × (room_of p.log.memory < blocks)) ⊎ NoneIsFinishable infos blocks p

-- the blocks that some infos name can't be written again for want of room
pub record LacksRoomFor (marks : List BlockInfo) (p : Parts) : Type 0 where
  pub named : List BlockInfo
  pub are_named : AreNamed (log_state p) marks named
  pub lacks : LacksRoomToMark named (blocks_to_mark named) p

-- What waits was written first. Then the blocks that some infos name, as the map then stood, were written again, so
-- many. What moved went to segments that weren't dirty, these are dirty still, and two segments were opened at most.
-- Where one was clean at most, blocks were written only where a segment can be finished behind them.
pub record MarksAgain (marks : List BlockInfo) (count : ℕ) (old new : Parts) : Type 0 where
  pub between : Parts
  pub written : WritesWaiting old between
  pub again : MarksFlushed marks count between new
  pub opened : old.log.clean ≤ new.log.clean + 2
  pub last : old.log.clean ≤ 1 → 0 < count → HasRoomToMark marks between
  pub moves : Moves (DirtyIn (log_state old)) (log_state old) (log_state new)
  pub dirty : StaysDirty (log_state old) (log_state new)
  pub blocks : (a : ℕ) → a / SEGMENT_BLOCKS < old.log.memory.segments
      → DirtyIn (log_state old) (a / SEGMENT_BLOCKS)
      → block_at new.log.memory a ≡ block_at old.log.memory a
