use Rattle.std.proofs.Common.{◌≤◌, ◌+◌, List, ℕ, length}
use Rattle.lfs_script.specs.Taking.{IsTaken}
use Rattle.lfs_script.proofs.lines.LineParser.take_lines.Given as goal

abbrev pub invariant-loop-alloc : goal.invariant-loop-alloc
invariant-loop-alloc l = record {
  taken : (whole : List ℕ) → IsTaken whole l.fn.text l.fn.self → IsTaken whole l.rest l.self;
  counted : l.self.line + length l.rest ≤ l.fn.self.line + length l.fn.text;
}

abbrev pub decreases-loop-alloc : goal.decreases-loop-alloc
decreases-loop-alloc l = length l.rest
