-- Volumes that are kept in files.
use Rattle.std.specs.Prelude.{◌≡◌, ℕ, Bool, List, Option, None, Some, if◌then◌else◌}
use Rattle.std.specs.Io.KnownBytes.{Appends}
use Rattle.lfs_types.specs.StoreStates.{StoreState}
use Rattle.lfs_types.specs.declared.level.Level.{Level}
use Rattle.lfs_types.specs.declared.store.Params.{Params}
use Rattle.lfs_log.specs.Parts.{LogParts}
use Rattle.lfs_parts.specs.Opening.{IsOpeningWith}
use Rattle.lfs_parts.specs.Store.{IsFlushed}
use Rattle.lfs_parts.specs.declared.parts.Parts.{Parts}
use Rattle.lfs_logstore.specs.States.{state_of}
use Rattle.lfs_calls.specs.Volumes.{HasWorld}
use Rattle.lfs_fsck.specs.Stored.{stored}
use Rattle.lfs_image.specs.Image.{image_bytes}
use Rattle.lfs_checking.specs.Volumes.{IsVolume}

-- the serial of the first summary, where summaries have serials
abbrev pub first_serial : Bool → Option ℕ
first_serial serials = if serials then Some 1 else None

-- a store was just laid out by these parameters, with serials or without
abbrev pub IsFreshStore : Bool → Params → Parts → Type 0
IsFreshStore serials params store =
    IsOpeningWith (first_serial serials) params.segments params.inodes params.frames store

-- a store with so many frames, all empty, and a securelevel are those of the volume whose image some bytes are
pub record IsLoaded (frames : ℕ) (store : Parts) (level : Level) : Type 0 where
  pub bytes : List ℕ
  pub image : IsVolume bytes store.log level
  pub flushed : store ≡ stored frames store.log
  pub world : HasWorld (state_of store)

-- a file, whose bytes these are where they are known, got the image of a log and a securelevel
pub record HasImage {F : Type 0} (contents : F → Option (List ℕ)) (log : LogParts) (level : Level) : Type 0 where
  pub before : F
  pub after : F
  pub written : Appends (contents before) (contents after) (image_bytes log level)

-- a file got the image of a store of which nothing waits, and of a level, whose state and level these are
pub record IsSaved {F : Type 0} (contents : F → Option (List ℕ)) (are : StoreState → Level → Type 0) : Type 0 where
  pub store : Parts
  pub level : Level
  pub flushed : IsFlushed store
  pub shown : are (state_of store) level
  pub image : HasImage contents store.log level
