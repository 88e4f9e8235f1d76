use Rattle.std.proofs.Common.{◌≡◌, ◌+◌, ◌==◌, drop}
use Rattle.std.specs.List.{list_any}
use Rattle.lfs_model.specs.Rules.{position}
use Rattle.lfs_explain.proofs.TrailLemmas.{numbers}
use Rattle.lfs_explain.proofs.trail.place_on.Given as goal

-- the number is among all where it is among the rest, and first there behind those so far
abbrev pub invariant-loop-at : goal.invariant-loop-at
invariant-loop-at l = record {
  is_on : list_any (λ n. n == l.number) (numbers l.rows) ≡ list_any (λ n. n == l.number) (numbers (drop l.at l.rows));
  place : position l.number (numbers l.rows) ≡ l.at + position l.number (numbers (drop l.at l.rows));
}
