use Rattle.std.proofs.Common.{◌≡◌, length}
use Rattle.lfs_settle.specs.Interleaving.{session_entries}
use Rattle.lfs_settle.proofs.stepping.next_of.Given as goal

abbrev pub invariant-loop-entry : goal.invariant-loop-entry
invariant-loop-entry l = session_entries l.session l.rest ≡ session_entries l.fn.session l.fn.entries

abbrev pub decreases-loop-entry : goal.decreases-loop-entry
decreases-loop-entry l = length l.rest
