-- The securelevel that a call leaves.
use Rattle.lfs_types.specs.declared.answer.Answer.{Answer}
use Rattle.lfs_types.specs.declared.answer.Answer.TheVariants.{Served, Denied, Refused}
use Rattle.lfs_types.specs.declared.level.Level.{Level}
use Rattle.lfs_types.specs.declared.request.Request.{Request}
use Rattle.lfs_types.specs.declared.request.Request.TheVariants.{SetLevel}

-- the securelevel that a served call leaves: the one that it sets, else the old one
abbrev pub level_set : Level → Request → Level
level_set level (SetLevel new) = new
level_set level request = level

-- the securelevel that an answered call leaves: one that isn't served leaves the old one
abbrev pub level_left : Level → Request → Answer → Level
level_left level request (Served shown) = level_set level request
level_left level request (Denied denial) = level
level_left level request (Refused resource) = level
