use Rattle.std.proofs.Common.{◌≡◌, ℕ, ◌+◌, Option, None, Some, true, false}
use Rattle.std.specs.Prelude.{is_some, if◌then◌else◌}
use Rattle.lfs_nodes.specs.declared.node.Node.{Node}
use Rattle.lfs_nodes.specs.Holds.{is_held, is_known_held}
use Rattle.lfs_nodes.specs.Maps.{node_at, nodes_in}
use Rattle.lfs_nodes.specs.Nodes.{known}
use Rattle.lfs_nodes.specs.Whole.{IsWhole}
use Rattle.lfs_nodes.proofs.parts.Parts.release.Given as goal

abbrev pub invariant-loop-above : goal.invariant-loop-above
invariant-loop-above l = record {
  whole : IsWhole l.self;
  dropped : is_held (node_at l.fn.self.table l.id) ≡ false → known l.self l.id ≡ None;
  held : (q : ℕ) → is_known_held (known l.fn.self q) ≡ true → known l.self q ≡ known l.fn.self q;
  others : (q : ℕ) (n : Node) → known l.self q ≡ Some n → known l.fn.self q ≡ Some n;
  next : l.self.next ≡ l.fn.self.next;
}

abbrev pub decreases-loop-above : goal.decreases-loop-above
decreases-loop-above l = nodes_in l.self.table + (if is_some l.above then 1 else 0)
