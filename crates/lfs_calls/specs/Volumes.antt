-- Stores that show a tree.
use Rattle.lfs_types.specs.StoreStates.{StoreState}
use Rattle.lfs_types.specs.Tree.{World}
use Rattle.lfs_model.specs.World.{IsTree}
use Rattle.lfs_calls.specs.Content.{Shows}

-- a store shows a world, which is a tree
pub record IsVolume (s : StoreState) (w : World) : Type 0 where
  pub shows : Shows s.content w
  pub tree : IsTree w.rows

-- there is a world that a store shows
abbrev pub HasWorld : StoreState → Type 0
HasWorld s = (w : World) × IsVolume s w

-- what holds in each world that a store shows
abbrev pub InWorld : StoreState → (World → Type 0) → Type 0
InWorld s P = (w : World) → IsVolume s w → P w
