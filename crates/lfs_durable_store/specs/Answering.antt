-- What calls of a durable store come to, and what becomes of its base.
use Rattle.std.specs.Prelude.{◌≡◌, ◌⊎◌, ◌<◌, Bool, true, false, not, List, Result, Ok, Err, OnErr}
use Rattle.lfs_types.specs.declared.store.Change.{Change}
use Rattle.lfs_types.specs.declared.store.Reserve.{Reserve}
use Rattle.lfs_types.specs.declared.store.StoreRefusal.{StoreRefusal}
use Rattle.lfs_segments.specs.Memory.{room_of}
use Rattle.lfs_staging.specs.Changing.{StaysInLog}
use Rattle.lfs_parts.specs.declared.parts.Parts.{Parts}
use Rattle.lfs_parts.specs.Filling.{SameButClean}
use Rattle.lfs_parts.specs.Store.{IsFlushed}
use Rattle.lfs_segwrite.specs.Applying.{WritesWaiting, waiting_blocks}
use Rattle.lfs_logstore.specs.Answering as log
use Rattle.lfs_durable_store.specs.declared.mark.Mark.{Mark}
use Rattle.lfs_durable_store.specs.Fitting.{Fits, FitsWith}
use Rattle.lfs_durable_store.specs.Keeping.{Durably, settled}

-- Clean blocks may have come into the cache, or have gone. The base stays, and what is told of it.
pub record FillsFrames (old new : Durably) : Type 0 where
  pub still : SameButClean old.store new.store
  pub base : new.base ≡ old.base
  pub mark : new.mark ≡ old.mark

-- What waited in a log store was written, and the store is its own base.
pub record Settles (old : Parts) (new : Durably) : Type 0 where
  pub written : WritesWaiting old new.store
  pub base : new ≡ settled new.mark.turn new.store

-- So it was in what the active segment had left: no segment was opened.
pub record SettlesInPlace (old new : Durably) : Type 0 where
  pub settles : Settles old.store new
  pub clean : new.store.log.clean ≡ old.store.log.clean

-- What waits didn't fit the active segment, and was written at once, in a segment that was opened. It was staged over a
-- store in which nothing waited.
pub record SettlesBehind (before : Durably) (staged : Parts) (new : Durably) : Type 0 where
  pub flushed : IsFlushed before.store
  pub own : before ≡ settled before.mark.turn before.store
  pub short : room_of staged.log.memory < waiting_blocks staged
  pub settles : Settles staged new

-- What waited was written first exactly where with changes it might not have fitted the active segment, and the turn is
-- another; else nothing was done.
abbrev pub WritesFirst : List Change → Durably → Durably → Type 0
WritesFirst changes old new =
    (FitsWith changes old.store × (new ≡ old))
    ⊎ ((FitsWith changes old.store → ⊥) × SettlesInPlace old new × (new.mark.turn ≡ not old.mark.turn))

-- what is told of the base behind changes that were made: it is whole no more
abbrev pub mark_behind : Result (Unit {0}) StoreRefusal → Mark → Mark
mark_behind (Ok done) m = record { is_whole = false; turn = m.turn }
mark_behind (Err refusal) m = m

-- Changes on somebody's behalf came to this. What waited was written first, or nothing was done. Then they came to what they
-- come to over a log, and nothing was written. Then what waits was written exactly where it doesn't fit the active segment.
pub record ComesTo (old : Durably) (changes : List Change) (by : Reserve) (result : Result (Unit {0}) StoreRefusal)
    (new : Durably) : Type 0 where
  pub before : Durably
  pub first : WritesFirst changes old before
  pub staged : Parts
  pub comes : log.ComesTo before.store changes by result staged
  pub stays : StaysInLog before.store staged
  pub behind : (Fits staged
      × (new ≡ record { store = staged; base = before.base; mark = mark_behind result before.mark }))
      ⊎ SettlesBehind before staged new
  pub refused : OnErr result (new ≡ before)

-- Where what waited in a log store didn't fit the active segment, it was written, and the store is its base then; and
-- whether it was is told.
abbrev pub SettlesIfPast : Parts → Parts → Bool → Parts → Parts → Type 0
SettlesIfPast old old_base was new new_base =
    (Fits old × (new ≡ old) × (new_base ≡ old_base) × (was ≡ false))
    ⊎ ((room_of old.log.memory < waiting_blocks old) × WritesWaiting old new × (new_base ≡ new) × (was ≡ true))
