use Rattle.std.proofs.Common.{◌≡◌, map}
use Rattle.lfs_film.specs.Frames.{first_changed}
use Rattle.lfs_film.proofs.changed.changed_rows.Given as goal

abbrev pub invariant-loop-number : goal.invariant-loop-number
invariant-loop-number l = map (λ x. x.now) l.rows.items ≡ first_changed l.old l.new l.number
