-- Securelevels as numbers.
use Rattle.std.specs.Prelude.{zero, suc, ℤ, pos, negsuc, Option, None, Some}
use Rattle.lfs_types.specs.declared.level.Level.{Level}
use Rattle.lfs_types.specs.declared.level.Level.TheVariants.{PermanentlyInsecure, Insecure, Secure, HighlySecure}

-- the level that a number stands for
abbrev pub level_of : ℤ → Option Level
level_of (negsuc zero) = Some PermanentlyInsecure
level_of (negsuc (suc n)) = None
level_of (pos zero) = Some Insecure
level_of (pos (suc zero)) = Some Secure
level_of (pos (suc (suc zero))) = Some HighlySecure
level_of (pos (suc (suc (suc n)))) = None
