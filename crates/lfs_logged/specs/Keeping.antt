-- How many entries of a volume's journal a crash would leave.
use Rattle.std.specs.Prelude.{◌≡◌, ◌⊎◌, ℕ, ◌≤◌, Bool, true, false, [], length, take}
use Rattle.lfs_segments.specs.Memory.{SegmentMemory}
use Rattle.lfs_parts.specs.declared.parts.Parts.{Parts}
use Rattle.lfs_logstore.specs.States.{state_of}
use Rattle.lfs_model.specs.Steps.{world_after}
use Rattle.lfs_calls.specs.Volumes.{IsVolume}
use Rattle.lfs_volume.specs.Journals.{Since}
use Rattle.lfs_volume.specs.Seen.{Seen}
use Rattle.lfs_durable.specs.Runs.{IsCounted}
use Rattle.lfs_durable_store.specs.declared.mark.Mark.{Mark}
use Rattle.lfs_durable_store.specs.Keeping.{Durably, IsKept, durable_state}
use Rattle.lfs_durable_store.specs.Surviving.{IsCutShort, IsFoundIn, IsInLaterFlush}

-- a volume over a durable store, and how many entries of its journal a crash would leave
pub record LoggedVolume : Type 0 where
  pub volume : Seen Durably
  pub kept : ℕ

-- A log store shows the tree that the first so many entries of a volume's journal lead to, from each world that it may have
-- begun in.
abbrev pub ShowsFirst : Seen Durably → ℕ → Parts → Type 0
ShowsFirst v count p = Since (durable_state v.since) v.since_level (λ from.
    IsVolume (state_of p) (world_after (durable_state v.store).shape.numbers (take count v.journal) from))

-- the same volume with its entries handed out: the journal begins anew, at the present tree
abbrev pub drained : LoggedVolume → LoggedVolume
drained l = record {
  volume = record l.volume { since = l.volume.store; since_level = l.volume.level; journal = [] };
  kept = 0;
}

-- Of the journal so many entries are kept: the base, which a crash would leave, shows the tree that they lead to, as the
-- store shows the one that all lead to.
pub record IsCounting (l : LoggedVolume) : Type 0 where
  pub store : IsKept l.volume.store
  pub within : l.kept ≤ length l.volume.journal
  pub base : ShowsFirst l.volume l.kept l.volume.store.base
  pub all : ShowsFirst l.volume (length l.volume.journal) l.volume.store.store

-- What is found behind a crash, at rest or in the flush of what waits, shows the tree that the entries that are kept lead to:
-- where the last serial hasn't come.
abbrev pub LeavesKept : LoggedVolume → Type 0
LeavesKept l = (n : SegmentMemory) (found : Parts) → IsCounted l.volume.store.store → IsCutShort l.volume.store n
    → IsFoundIn n found → ShowsFirst l.volume l.kept found

-- What is found behind a crash before or in a later flush of the next call shows the tree that all entries lead to.
abbrev pub LeavesAll : LoggedVolume → Type 0
LeavesAll l = (n : SegmentMemory) (found : Parts) → IsInLaterFlush l.volume.store n → IsFoundIn n found
    → ShowsFirst l.volume (length l.volume.journal) found

-- A call never makes it fewer: so many as before are kept, or as many as there were before the call, or as there are now.
pub record KeepsCount (old new : LoggedVolume) : Type 0 where
  pub grows : old.kept ≤ new.kept
  pub either : (new.kept ≡ old.kept)
      ⊎ ((new.kept ≡ length old.volume.journal) ⊎ (new.kept ≡ length new.volume.journal))

-- how many are kept behind a call: all where the base is told to be whole; else as many as before at the same turn, and as
-- many as there were before the call at another
abbrev pub kept_by : Bool → Bool → Bool → ℕ → ℕ → ℕ → ℕ
kept_by true was is before after kept = after
kept_by false false false before after kept = kept
kept_by false true true before after kept = kept
kept_by false was is before after kept = before

-- so by what the store told of its base before the call, and tells now
abbrev pub kept_behind : Mark → Mark → ℕ → ℕ → ℕ → ℕ
kept_behind old new before after kept = kept_by new.is_whole old.turn new.turn before after kept
