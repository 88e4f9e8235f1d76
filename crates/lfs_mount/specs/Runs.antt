-- A journal that is a legal run, and how it goes on.
use Rattle.std.specs.Prelude.{◌≡◌, List, ◌++◌}
use Rattle.lfs_types.specs.StoreStates.{StoreState}
use Rattle.lfs_model.specs.Steps.{IsLegal, world_after}
use Rattle.lfs_model.specs.declared.journal.Entry.{Entry}
use Rattle.lfs_volume.specs.Journals.{Begins, IsJournal, Since}
use Rattle.lfs_volume.specs.Seen.{Seen}

-- The journal of a volume is a legal run to the tree that store and level show: what `Volume::journal` says.
abbrev pub IsRun : {F : Type 0} → (F → StoreState) → Seen F → Type 0
IsRun state v =
    Since (state v.since) v.since_level (λ from. IsJournal from
    (state v.store) v.level v.journal v.limit)

-- A volume whose journal goes on: further entries stand behind those that it had, and it stays a legal run. The store has
-- as many inode numbers and segments as before.
pub record GoesOn {F : Type 0} (state : F → StoreState) (old new : Seen F) : Type 0 where
  pub more : List Entry
  pub entered : new.journal ≡ old.journal ++ more
  pub since : new.since ≡ old.since
  pub since_level : new.since_level ≡ old.since_level
  pub limit : new.limit ≡ old.limit
  pub shape : (state new.store).shape ≡ (state old.store).shape
  pub legal : IsRun state old → IsRun state new

-- entries are a legal run from each tree and level that a volume showed when its journal began to those that another
-- shows
abbrev pub LeadTo : {F : Type 0} → (F → StoreState) → Seen F → List Entry → Seen F → Type 0
LeadTo state old entries new =
    Since (state old.since) old.since_level (λ from.
    let shape = (state old.store).shape in
    IsLegal shape.numbers shape.segments entries from
    × Begins (state new.store) new.level (world_after shape.numbers entries from))
