use Rattle.lfs_segwrite.specs.Gaining.{MovesEights}
use Rattle.lfs_segwrite.proofs.gaining.mark_by_eights.Given as goal

-- the eights so far are elsewhere
abbrev pub invariant-loop-k : goal.invariant-loop-k
invariant-loop-k l = MovesEights l.infos l.k l.initial.parts l.parts
