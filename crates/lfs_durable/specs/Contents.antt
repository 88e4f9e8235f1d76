-- What a store contains that stands on what recovery finds of another one.
use Rattle.std.specs.Prelude.{◌≡◌, ℕ, ◌+◌, ◌*◌, ◌/◌, ◌<◌, ◌≤◌, ◌↔◌, List, Option, None, Some, IsSome, length, slice_index_or}
use Rattle.lfs_types.specs.declared.limits.TheConstants.{SEGMENT_BLOCKS}
use Rattle.lfs_types.specs.Tree.{World}
use Rattle.lfs_segments.specs.Memory.{SegmentMemory, block_at, label}
use Rattle.lfs_ifile.specs.declared.inode.InodePlace.{InodePlace}
use Rattle.lfs_ifile.specs.Tables.{place_of}
use Rattle.lfs_recovery.specs.declared.places.PartialSegment.{PartialSegment}
use Rattle.lfs_recovery.specs.declared.places.RecordPlace.{RecordPlace}
use Rattle.lfs_recovery.specs.Logs.{IsLogged}
use Rattle.lfs_log.specs.Parts.{LogParts}
use Rattle.lfs_parts.specs.declared.parts.Parts.{Parts}
use Rattle.lfs_parts.specs.Files.{content_of}
use Rattle.lfs_parts.specs.Store.{IsFlushed, IsStore}
use Rattle.lfs_model.specs.World.{IsTree}
use Rattle.lfs_calls.specs.Content.{Shows}
use Rattle.lfs_reach.specs.Reach.{Reaches}
use Rattle.lfs_durable.specs.Names.{AreNewest, IsDurable}

-- an address behind a partial segment, in its segment
abbrev pub IsPast : PartialSegment → ℕ → Type 0
IsPast last address = (address / SEGMENT_BLOCKS ≡ last.address / SEGMENT_BLOCKS) × (last.address + 1 + last.count ≤ address)

-- A log is made of what recovery finds in a memory. A number is in use exactly where names lead to it, and then has the
-- place of its newest record. Its blocks are the memory's, but for those behind the partial segment of the highest serial;
-- block 0 is the label of as many inode numbers.
pub record IsMadeOf (m : SegmentMemory) (l : LogParts) : Type 0 where
  pub places : List (Option RecordPlace)
  pub newest : AreNewest m places
  pub named : (n : ℕ) → n < length l.tables.rows → IsSome (place_of l.tables n) ↔ Reaches m places n
  pub placed : (n : ℕ) (at : InodePlace) (r : RecordPlace) → n < length l.tables.rows → place_of l.tables n ≡ Some at
      → slice_index_or places n None ≡ Some r → (at.addr ≡ r.address) × (at.slot ≡ r.slot)
  pub last : PartialSegment
  pub logged : IsLogged m last
  pub latest : (p : PartialSegment) → IsLogged m p → p.serial ≤ last.serial
  pub kept : (address : ℕ) → address < m.segments * SEGMENT_BLOCKS → (IsPast last address → ⊥)
      → block_at l.memory address ≡ block_at m address
  pub labelled : block_at l.memory 0 ≡ label l.memory.segments (length l.tables.rows)

-- A store on such a log, in which nothing waits, contains what the store contained whose memory that is, and which showed
-- a tree.
abbrev pub FindsContent : Type 0
FindsContent = (p q : Parts) (w : World) → IsDurable p → Shows (content_of p) w → IsTree w.rows
    → IsMadeOf p.log.memory q.log → IsStore q → IsFlushed q → content_of q ≡ content_of p
