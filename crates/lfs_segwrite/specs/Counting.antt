-- Keys that are gathered, each once.
use Rattle.std.specs.Prelude.{◌⊎◌, ◌+◌, ◌≤◌, ◌↔◌, List, Contains, length}
use Rattle.std.specs.List.{IsDistinct}
use Rattle.lfs_cache.specs.declared.key.Key.{Key}
use Rattle.lfs_cache.specs.Keys.{same_key}

-- A list got some more keys, each where it wasn't there.
pub record AddsKeys (more old new : List Key) : Type 0 where
  pub each : (key : Key) → Contains new key ↔ (Contains old key ⊎ Contains more key)
  pub once : IsDistinct same_key old → IsDistinct same_key new
  pub few : length new ≤ length old + length more
