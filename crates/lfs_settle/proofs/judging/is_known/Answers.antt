use Rattle.std.proofs.Common.{refl, sym, subst, inr, arith}
use Rattle.lfs_settle.specs.Interleaving.{IsCleaners}
use Rattle.lfs_settle.proofs.judging.is_known.Goals as goal

pub returns-in-Cleaner : goal.returns-in-Cleaner
returns-in-Cleaner c = (λ h. inr (c.if-entry.false, omega arith, subst IsCleaners (sym c.in-Cleaner.is) tt), λ h. refl)
