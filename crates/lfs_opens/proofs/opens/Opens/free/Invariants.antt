use Rattle.std.proofs.Common.{ℕ, ◌<◌}
use Rattle.lfs_opens.specs.Opens.{IsFree}
use Rattle.lfs_opens.proofs.opens.Opens.free.Given as goal

-- in each slot so far is a file
abbrev pub invariant-loop-slot : goal.invariant-loop-slot
invariant-loop-slot l = (s : ℕ) → s < l.slot → IsFree l.self.files.items s → ⊥
