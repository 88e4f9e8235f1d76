use Rattle.lfs_laws.proofs.LockWords.{flags_by_level, flags_by_owner, level_by_number}
use Rattle.lfs_laws.proofs.laws.levels_by_number.Goals as goal

pub returns : goal.returns
returns c = record { level = level_by_number; owner = flags_by_owner; superuser = flags_by_level }
