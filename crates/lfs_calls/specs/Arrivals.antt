-- Where a moved row comes to stand, over a store.
use Rattle.std.specs.Prelude.{◌≡◌, ◌<◌, ℕ, true, List, length, Some, IsSome}
use Rattle.std.specs.FinMap as map
use Rattle.lfs_types.specs.Kinds.{is_directory_kind}
use Rattle.lfs_types.specs.Stored.{shown_attrs}
use Rattle.lfs_types.specs.Tree.{Content, root}
use Rattle.lfs_calls.specs.declared.arriving.Arrival.{Arrival}
use Rattle.lfs_model.specs.World.{Rows, child}
use Rattle.lfs_model.specs.Rules.{front, last, reached}

-- a directory that a path's names before the last lead to, as the store shows it, and the number that has the last name
-- there
pub record IsArrival (c : Content) (rows : Rows) (path : List (List ℕ))
    (arrival : Arrival) : Type 0 where
  pub some : 0 < length path
  pub object : reached rows root (front path) ≡ arrival.dir.number
  pub shown : Some arrival.dir.attrs ≡ shown_attrs c arrival.dir.number
  pub directory : is_directory_kind arrival.dir.attrs.kind ≡ true
  pub there : child rows arrival.dir.number (last path) ≡ arrival.there

-- a number has a row
abbrev pub IsThere : Rows → ℕ → Type 0
IsThere rows n = IsSome (map.get rows n)
