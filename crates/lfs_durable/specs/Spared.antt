-- What of a memory's blocks a store needs, and what a memory has that spares it.
use Rattle.std.specs.Prelude.{◌≡◌, ℕ, ◌/◌, ◌≤◌, true, Option}
use Rattle.lfs_types.specs.Tree.{World}
use Rattle.lfs_segments.specs.Memory.{SegmentMemory, block_at}
use Rattle.lfs_ifile.specs.Tables.{row_of}
use Rattle.lfs_bmap.specs.Log.{IsPlaced}
use Rattle.lfs_recovery.specs.declared.places.PartialSegment.{PartialSegment}
use Rattle.lfs_recovery.specs.declared.places.RecordPlace.{RecordPlace}
use Rattle.lfs_recovery.specs.Logs.{IsLogged}
use Rattle.lfs_recovery.specs.Newest.{IsNewest}
use Rattle.lfs_parts.specs.declared.parts.Parts.{Parts}
use Rattle.lfs_parts.specs.Files.{content_of}
use Rattle.lfs_parts.specs.Keys.{log_state}
use Rattle.lfs_parts.specs.Store.{IsFlushed, IsStore}
use Rattle.lfs_model.specs.World.{IsTree}
use Rattle.lfs_calls.specs.Content.{Shows}
use Rattle.lfs_durable.specs.Contents.{IsMadeOf, IsPast}
use Rattle.lfs_durable.specs.Names.{IsDurable}

-- a block of the store stands at an address: one with its record of a number, or a block of a file
pub record IsHeld (p : Parts) (address : ℕ) : Type 0 where
  pub number : ℕ
  pub code : ℕ
  pub placed : IsPlaced (log_state p) number code
  pub here : (log_state p).at number code / 4 ≡ address

-- A memory spares a store: it has the label and each block of the store as the store's log has them, the newest record
-- that is found in it of each number in use is the newest in the store's log, and none of the store's blocks stands behind
-- the partial segment of its highest serial.
pub record Spares (p : Parts) (n : SegmentMemory) : Type 0 where
  pub segments : n.segments ≡ p.log.memory.segments
  pub label : block_at n 0 ≡ block_at p.log.memory 0
  pub held : (address : ℕ) → IsHeld p address → block_at n address ≡ block_at p.log.memory address
  pub newest : (number : ℕ) (o : Option RecordPlace) → (row_of p.log.tables number).used ≡ true → IsNewest n number o
      → IsNewest p.log.memory number o
  pub ends : (last : PartialSegment) → IsLogged n last → ((s : PartialSegment) → IsLogged n s → s.serial ≤ last.serial)
      → (address : ℕ) → IsHeld p address → IsPast last address → ⊥

-- A store on what is found in a memory that spares another one, which showed a tree, contains what that one contained.
abbrev pub FindsSpared : Type 0
FindsSpared = (p q : Parts) (w : World) (n : SegmentMemory) → IsDurable p → Shows (content_of p) w → IsTree w.rows
    → Spares p n → IsMadeOf n q.log → IsStore q → IsFlushed q → content_of q ≡ content_of p
