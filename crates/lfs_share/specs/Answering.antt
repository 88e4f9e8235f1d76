-- What a store with a share shows, and what changes come to over it.
use Rattle.std.specs.Prelude.{◌≡◌, ◌<◌, ◌≤◌, List, Result, IfErr, OnErr, OnOk, true}
use Rattle.lfs_types.specs.StoreStates.{StoreState}
use Rattle.lfs_types.specs.declared.store.Change.{Change}
use Rattle.lfs_types.specs.declared.store.Reserve.{Reserve}
use Rattle.lfs_types.specs.declared.store.StoreRefusal.{StoreRefusal}
use Rattle.lfs_types.specs.declared.store.StoreRefusal.TheVariants.{NoSpace}
use Rattle.lfs_segwrite.specs.Applying.{MakesChanges, WritesWaiting}
use Rattle.lfs_parts.specs.declared.parts.Parts.{Parts}
use Rattle.lfs_parts.specs.Store.{IsFlushed}
use Rattle.lfs_logstore.specs.States.{state_of}
use Rattle.lfs_share.specs.Growing.{PassesShare}
use Rattle.lfs_share.specs.Share.{IsWithinShare}
use Rattle.lfs_share.specs.declared.restoring.TheConstants.{ENOUGH}

-- the same state of a store that refuses growth past a share of its segments
abbrev pub with_share : StoreState → StoreState
with_share s = record s { shape = record s.shape { has_share = true } }

-- the state of the log store, but growth past a share is refused
abbrev pub shared_state : Parts → StoreState
shared_state p = with_share (state_of p)

-- What waited was written, and where three segments were clean then, nothing else was done.
pub record WritesThenCleans (old new : Parts) : Type 0 where
  pub written : Parts
  pub writes : WritesWaiting old written
  pub idle : ENOUGH ≤ written.log.clean → new ≡ written

-- Three segments are clean. Where they were already, nothing was done; else what waited was written, and segments were
-- cleaned.
pub record MakesRoom (old new : Parts) : Type 0 where
  pub clean : ENOUGH ≤ new.log.clean
  pub content : (state_of new).content ≡ (state_of old).content
  pub shape : (state_of new).shape ≡ (state_of old).shape
  pub idle : ENOUGH ≤ old.log.clean → new ≡ old
  pub flushed : old.log.clean < ENOUGH → IsFlushed new

-- room was made, and behind it the changes, as on any log
pub record MakesBehind (by : Reserve) (changes : List Change) (old new : Parts) : Type 0 where
  pub between : Parts
  pub room : MakesRoom old between
  pub makes : MakesChanges by changes between new

-- Changes on somebody's behalf came to this: they are made where they keep within the share; else they make files take
-- more, and would pass it, and all is as it was.
pub record ComesTo (old : Parts) (changes : List Change) (by : Reserve) (result : Result (Unit {0}) StoreRefusal)
    (new : Parts) : Type 0 where
  pub makes : OnOk result (MakesBehind by changes old new)
  pub fits : OnOk result (PassesShare changes (shared_state old) → ⊥)
  pub refused : OnErr result (new ≡ old)
  pub past : OnErr result (PassesShare changes (shared_state old))
  pub cause : IfErr result (λ refusal. refusal ≡ NoSpace)
  pub within : IsWithinShare (shared_state new)
