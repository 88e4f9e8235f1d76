-- Counts of answers.
use Rattle.std.specs.Prelude.{ℕ, ◌+◌}
use Rattle.lfs_types.specs.declared.answer.Answer.{Answer}
use Rattle.lfs_types.specs.declared.answer.Answer.TheVariants.{Served, Denied, Refused}
use Rattle.lfs_bench.specs.declared.counts.Counts.{Counts}

-- the counts of one answer more
abbrev pub counted : Answer → Counts → Counts
counted (Served _) counts = record counts { served = counts.served + 1 }
counted (Denied _) counts = record counts { denied = counts.denied + 1 }
counted (Refused _) counts = record counts { refused = counts.refused + 1 }

-- how many answers there are in all
abbrev pub total : Counts → ℕ
total counts = counts.served + counts.denied + counts.refused
