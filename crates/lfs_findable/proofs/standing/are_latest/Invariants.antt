use Rattle.std.proofs.Common.{◌<◌, ℕ, None, get_or}
use Rattle.lfs_ifile.specs.Tables.{place_of}
use Rattle.lfs_findable.specs.Judging.{StandsAt}
use Rattle.lfs_findable.proofs.standing.are_latest.Given as goal

-- those so far stand where they are to
abbrev pub invariant-loop-number : goal.invariant-loop-number
invariant-loop-number l = (n : ℕ) → n < l.number → StandsAt (place_of l.log.tables n) (get_or l.newest.items n None)
