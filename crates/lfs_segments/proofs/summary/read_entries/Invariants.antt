use Rattle.lfs_segments.specs.Entry.{AreEntriesAt}
use Rattle.lfs_segments.proofs.summary.read_entries.Given as goal

-- the entries so far
abbrev pub invariant-loop-k : goal.invariant-loop-k
invariant-loop-k l = AreEntriesAt l.block l.k l.entries
