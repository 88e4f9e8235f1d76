-- What a `&mut` to a cache is in the end where the result borrows from it.
use Rattle.std.specs.Prelude.{◌≡◌, ⊤}
use Rattle.std.specs.Borrow.{follows_so, MutBor, Fml}
use mathlib.Core.Option.{none}
use Rattle.lfs_cache.specs.Contents.{Contents}
use Rattle.lfs_cache.specs.contracts.cache.Cache.{the_row}

abbrev pub ends_as : MutBor Contents → Contents → Fml
ends_as c s = follows_so the_row the_row c.ghost_name none (λ _ _. ⊤) (λ n. n ≡ s)
