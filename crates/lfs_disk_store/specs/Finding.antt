-- What is found in the blocks that a crash leaves of a store's disk.
use Rattle.std.specs.Prelude.{◌≡◌, ◌⊎◌, ℕ, List}
use Rattle.lfs_types.specs.Tree.{Content}
use Rattle.lfs_segments.specs.Memory.{SegmentMemory}
use Rattle.lfs_parts.specs.declared.parts.Parts.{Parts}
use Rattle.lfs_parts.specs.Files.{content_of}
use Rattle.lfs_durable.specs.Runs.{IsCounted, ShowsTree}
use Rattle.lfs_disk.specs.Disk.{LeavesOnly}
use Rattle.lfs_durable_store.specs.Keeping.{Durably}
use Rattle.lfs_durable_store.specs.Surviving.{IsFoundIn}
use Rattle.lfs_disk_store.specs.Keeping.{OnDisk}

-- A store on what is found in the blocks of so many segments contains such a content.
abbrev pub Finds : ℕ → (Content → Type 0) → List (List ℕ) → Type 0
Finds segments is blocks = (n : SegmentMemory) (found : Parts) → n.segments ≡ segments → n.blocks ≡ blocks
    → IsFoundIn n found → is (content_of found)

-- It contains what the base contains.
abbrev pub FindsBase : Durably → List (List ℕ) → Type 0
FindsBase s = Finds s.store.log.memory.segments (λ content. content ≡ content_of s.base)

-- It contains what the base contained before a call, or what the store contained before it, or what it contains now.
abbrev pub IsOneOf : Durably → Durably → Content → Type 0
IsOneOf old new content = (content ≡ content_of old.base)
    ⊎ ((content ≡ content_of old.store) ⊎ (content ≡ content_of new.store))

abbrev pub FindsOneOf : Durably → Durably → List (List ℕ) → Type 0
FindsOneOf old new = Finds old.store.log.memory.segments (IsOneOf old new)

-- These contents show trees.
pub record ShowTrees (old new : Durably) : Type 0 where
  pub base : ShowsTree old.base
  pub before : ShowsTree old.store
  pub now : ShowsTree new.store

-- A crash at any moment of a call leaves blocks in which one of these is found, where they show trees and the last
-- serial hasn't come, as the store was written on the way.
pub record LeavesOne {D : Type 0} (time : D → ℕ) (left_since : D → ℕ → List (List ℕ) → Type 0)
    (IsCountedOnTheWay : Type 0) (old new : OnDisk D) : Type 0 where
  pub only : ShowTrees old.store new.store → IsCounted old.store.store → IsCountedOnTheWay
      → IsCounted new.store.store
      → LeavesOnly time left_since old.disk new.disk (FindsOneOf old.store new.store)
