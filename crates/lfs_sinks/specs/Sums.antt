-- How the calls of all entries were answered, those that were handed out and those that are kept.
use Rattle.std.specs.Prelude.{ℕ, ◌+◌, List, [], ◌∷◌}
use Rattle.lfs_model.specs.declared.counts.Counts.{Counts}

-- numbers, each with the one of another list that stands in its place
abbrev pub sums : List ℕ → List ℕ → List ℕ
sums [] others = []
sums (number ∷ numbers) [] = number ∷ numbers
sums (number ∷ numbers) (other ∷ others) = (number + other) ∷ sums numbers others

-- the counts of two journals, added
abbrev pub counts_sum : Counts → Counts → Counts
counts_sum first second = record {
  served = first.served + second.served;
  denied = first.denied + second.denied;
  refused = first.refused + second.refused;
  cleaner = first.cleaner + second.cleaner;
  rules = sums first.rules second.rules;
}
