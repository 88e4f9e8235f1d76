use Rattle.std.proofs.Common.{◌↔◌, length}
use Rattle.lfs_settle.specs.Interleaving.{HasNoStrangers}
use Rattle.lfs_settle.proofs.judging.are_known.Given as goal

abbrev pub invariant-loop-entry : goal.invariant-loop-entry
invariant-loop-entry l = HasNoStrangers l.sessions l.rest ↔ HasNoStrangers l.fn.sessions l.fn.entries

abbrev pub decreases-loop-entry : goal.decreases-loop-entry
decreases-loop-entry l = length l.rest
