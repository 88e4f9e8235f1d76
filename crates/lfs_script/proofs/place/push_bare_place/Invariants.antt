use Rattle.std.proofs.Common.{◌≡◌, drop, map}
use Rattle.lfs_script.specs.Places.{bare_place}
use Rattle.lfs_script.proofs.place.push_bare_place.Given as goal

abbrev pub invariant-loop-word : goal.invariant-loop-word
invariant-loop-word l = record {
  same : l.out.items ≡ l.fn.out.items;
  on : bare_place l.fn.column (map (λ x. x.now) l.words)
      ≡ bare_place l.at (drop l.word-index (map (λ x. x.now) l.words));
}
