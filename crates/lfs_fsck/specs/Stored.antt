-- A log that a store may stand on.
use Rattle.std.specs.Prelude.{ℕ, []}
use Rattle.lfs_types.specs.Ranges.{least_frames}
use Rattle.lfs_cache.specs.Contents.{nothing_in}
use Rattle.lfs_bmap.specs.Log.{LogState}
use Rattle.lfs_log.specs.Parts.{LogParts}
use Rattle.lfs_parts.specs.declared.parts.Parts.{Parts}
use Rattle.lfs_parts.specs.Keys.{log_state}
use Rattle.lfs_parts.specs.Store.{IsStore}

-- the parts over a log: so many frames, all empty, and nothing waits
abbrev pub stored : ℕ → LogParts → Parts
stored frames l = record { log = l; cache = nothing_in frames; waiting = [] }

-- a store may stand on the log, with however many frames
abbrev pub IsStored : LogParts → Type 0
IsStored l = (frames : ℕ) → IsStore (stored frames l)

-- The parts by which the log's files are told here. The number of frames makes no difference.
abbrev pub flushed : LogParts → Parts
flushed l = stored least_frames l

-- its keys
abbrev pub keys_of : LogParts → LogState
keys_of l = log_state (flushed l)
