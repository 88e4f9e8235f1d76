-- Which requests take memory when they are copied.
use Rattle.lfs_types.specs.declared.request.Request.{Request}
use Rattle.lfs_types.specs.declared.request.Request.TheVariants.{SetLevel, Sync}

-- the request holds a path
abbrev pub HoldsPath : Request → Type 0
HoldsPath (SetLevel level) = ⊥
HoldsPath Sync = ⊥
HoldsPath request = Unit {0}
