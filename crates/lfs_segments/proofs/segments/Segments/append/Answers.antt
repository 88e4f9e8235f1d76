use Rattle.lfs_segments.proofs.MemoryLemmas.{appended_laid_out}
use Rattle.lfs_segments.proofs.segments.Segments.append.Goals as goal

pub invariant_of-self : goal.invariant_of-self
invariant_of-self c = let old = c.self.inside in let fits = c.requires in let view = c.self.view_is in
    rw c.put.ensures (appended_laid_out old.serial old.blocks old.active old.fill c.args.blocks.now c.self.invariant
    (rw (← view) at fits) c.told-blocks)

pub returns-clause-laid_out : goal.returns-clause-laid_out
returns-clause-laid_out c = invariant_of-self c
