use Rattle.std.proofs.Common.{inl}
use Rattle.lfs_programs.proofs.volume.fresh.Goals as goal

pub returns-in-Ok-clause-begun : goal.returns-in-Ok-clause-begun
returns-in-Ok-clause-begun g c = (c.in-Ok.ensures.within, inl c.in-Ok.ensures.begun)
