-- What a store was asked for, and what came of it.
use Rattle.std.specs.Prelude.{◌≡◌, List, Result}
use Rattle.lfs_types.specs.StoreStates.{MovesBase, StoreState}
use Rattle.lfs_types.specs.declared.store.Change.{Change}
use Rattle.lfs_types.specs.declared.store.Reserve.{Reserve}
use Rattle.lfs_types.specs.declared.store.StoreRefusal.{StoreRefusal}

-- A store was asked for changes on somebody's behalf, with this result, and its state did not change but by that: it
-- was asked as its state stood, and its state stands as that left it, its base too. What a store's changes come to is a
-- relation of its own.
pub record WasAsked {F : Type 0} (state : F → StoreState) (made : F → List Change → Reserve
    → Result (Unit {0}) StoreRefusal → F → Type 0)
    (old : F) (changes : List Change) (by : Reserve) (result : Result (Unit {0}) StoreRefusal) (new : F) : Type 0 where
  pub before : F
  pub after : F
  pub as_old : state before ≡ state old
  pub came : made before changes by result after
  pub as_new : state after ≡ state new
  pub base : MovesBase (state old) (state new)
