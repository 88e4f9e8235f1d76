-- What a durable store keeps of its log store, and of the one that a crash leaves.
use Rattle.std.specs.Prelude.{◌≡◌, ◌≤◌, Bool, true, Some}
use Rattle.lfs_types.specs.StoreStates.{Base, StoreState}
use Rattle.lfs_segments.specs.Memory.{room_of}
use Rattle.lfs_parts.specs.declared.parts.Parts.{Parts}
use Rattle.lfs_parts.specs.Files.{content_of}
use Rattle.lfs_parts.specs.Store.{IsFlushed, IsStore}
use Rattle.lfs_segwrite.specs.Applying.{waiting_blocks}
use Rattle.lfs_logstore.specs.States.{state_of}
use Rattle.lfs_durable.specs.Kept.{CanBeFound}
use Rattle.lfs_durable_store.specs.declared.mark.Mark.{Mark}

-- a log store as it is, and as it was at some moment at which nothing waited: its base; with what the store tells of that
pub record Durably : Type 0 where
  pub store : Parts
  pub base : Parts
  pub mark : Mark

-- Both can be found. Nothing waited in the base, and nothing was written since. What waits fits what the active segment has
-- left, so that no segment is opened when it is written. Where the store tells that its base is whole, the base contains
-- what the store does.
pub record IsKept (s : Durably) : Type 0 where
  pub found : CanBeFound s.store
  pub base_found : CanBeFound s.base
  pub base_store : IsStore s.base
  pub base_flushed : IsFlushed s.base
  pub memory : s.store.log.memory ≡ s.base.log.memory
  pub fits : waiting_blocks s.store ≤ room_of s.store.log.memory
  pub whole : s.mark.is_whole ≡ true → content_of s.base ≡ content_of s.store

-- a store that is its own base, whole, at this turn
abbrev pub settled : Bool → Parts → Durably
settled turn p = record { store = p; base = p; mark = record { is_whole = true; turn = turn } }

-- nothing waits, and the base is told to be whole
pub record IsSettled (s : Durably) : Type 0 where
  pub flushed : IsFlushed s.store
  pub whole : s.mark.is_whole ≡ true

-- what is told of the base
abbrev pub base_told : Durably → Base
base_told s = record { content = content_of s.base; is_whole = s.mark.is_whole; turn = s.mark.turn }

-- its state is the log store's, and tells the base
abbrev pub durable_state : Durably → StoreState
durable_state s = record (state_of s.store) { base = Some (base_told s) }
