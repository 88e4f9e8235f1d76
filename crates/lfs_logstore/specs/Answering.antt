-- What changes come to over a log.
use Rattle.std.specs.Prelude.{◌≡◌, List, Result, OnErr, OnOk}
use Rattle.lfs_types.specs.declared.store.Change.{Change}
use Rattle.lfs_types.specs.declared.store.Reserve.{Reserve}
use Rattle.lfs_types.specs.declared.store.StoreRefusal.{StoreRefusal}
use Rattle.lfs_segwrite.specs.Applying.{HasRoomFor, MakesChanges}
use Rattle.lfs_parts.specs.declared.parts.Parts.{Parts}

-- Changes on somebody's behalf came to this: they are made where the log had room for them, as it stood; else all is as
-- it was.
pub record ComesTo (old : Parts) (changes : List Change) (by : Reserve) (result : Result (Unit {0}) StoreRefusal)
    (new : Parts) : Type 0 where
  pub makes : OnOk result (MakesChanges by changes old new)
  pub fits : OnOk result (HasRoomFor by changes old)
  pub refused : OnErr result (new ≡ old)
  pub lacking : OnErr result (HasRoomFor by changes old → ⊥)
