use Rattle.std.proofs.Common.{◌≡◌, drop, map}
use Rattle.lfs_script.specs.Places.{unread_place}
use Rattle.lfs_script.proofs.place.push_unread_place.Given as goal

abbrev pub invariant-loop-index : goal.invariant-loop-index
invariant-loop-index l = record {
  same : l.out.items ≡ l.fn.out.items;
  on : unread_place l.operands 0 l.fn.column (map (λ x. x.now) l.words)
      ≡ unread_place l.operands l.index l.at (drop l.index (map (λ x. x.now) l.words));
}
